use Rattle.std.proofs.Common.{◌∙◌, sym, ap, length}
use Rattle.index.proofs.Starts.{start-done}
use Rattle.index.proofs.start.Goals as goal

pub copy_from_slice-requires : goal.copy_from_slice-requires
copy_from_slice-requires c = c.split_at_mut-first.ensures.front_len ∙ sym (ap length c.first_words.ensures)

pub returns : goal.returns
returns c =
    start-done _ _ _ _ _ _ _ _ (sym c.sizes_fit.ensures ∙ c.if-not-sizes_fit.false) c.store_length.ensures c.if-store-store_length.false
    (c.copy_from_slice.ensures.after ∙ c.first_words.ensures) (c.fill.ensures.after (λ y h. h)) c.split_at_mut-first.ensures.back_len
