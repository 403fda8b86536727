-- Boards that are told of a step: each stays in range, and an open one shows what a query gives after the step.
use Rattle.std.specs.Prelude.{◌≡◌, ◌≤◌, true, false, List, map, length}
use Rattle.std.proofs.Common.{sym, ◌∙◌, ap, eq-eqb, ne_eqb, arith}
use Rattle.rules.specs.declared.Window.{Window}
use Rattle.rules.specs.Lists.{keep}
use Rattle.rules.specs.Boxes.{meets}
use Rattle.rules.specs.Store.{Board, Store, row_limit}
use Rattle.rules.specs.Live.{live, rows_in}
use Rattle.rules.specs.Boards.{is_open}
use Rattle.rules.specs.Views.{BoardInRange, OpenBoard, Rule5, rule5_test}
use Rattle.rules.specs.laws.All.{All, all_map, all_zip, all_mapped}
use Rattle.rules.specs.theorems.Query.{rows_are_live}

-- the rows in a window are those of the live list that meet it
pub rows_shown : (s : Store) → Rule5 s → (w : Window) → rows_in s w ≡ keep (λ r. meets r.bounds w) (live s)
rows_shown s r w = rows_are_live s w (rule5_test s r)

module _ (tell : Board → Board) (window : (b : Board) → (tell b).window ≡ b.window) (isopen : (b : Board) → (tell b).isopen ≡ b.isopen) where
  pub told-in_range : ((b : Board) → is_open b ≡ false → tell b ≡ b) → {bs : List Board}
      → All (λ b. length (tell b).rows ≤ row_limit) bs → All BoardInRange bs → All BoardInRange (map tell bs)
  told-in_range shut fits a =
      all_mapped tell (all_zip fits a λ b f h.
      record { open_most = rw (isopen b) h.open_most; rows_most = f; shut = λ o. let z = sym (isopen b) ∙ o in shut b (ne_eqb b.isopen 1 (omega arith)) ∙ h.shut z })

  pub told_open : (s u : Store) → Rule5 s → Rule5 u
      → ((b : Board) → is_open b ≡ true → b.rows ≡ keep (λ r. meets r.bounds b.window) (live s)
      → (tell b).rows ≡ keep (λ r. meets r.bounds b.window) (live u))
      → {bs : List Board} → All (λ b. b.isopen ≡ 1 → OpenBoard s b) bs → All (λ b. b.isopen ≡ 1 → OpenBoard u b) (map tell bs)
  told_open s u r q shows a =
      all_mapped tell (all_map a λ b h o.
      let z = sym (isopen b) ∙ o in
      let k = h z in
      record {
        proper = rw (window b) k.proper;
        exact = shows b (eq-eqb _ _ z) (k.exact ∙ rows_shown s r b.window) ∙ sym (rows_shown u q b.window) ∙ ap (rows_in u) (sym (window b));
      })
