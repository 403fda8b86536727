-- What the functions ask for and promise: what is known of the store, and what is gathered from the entries so far.
use Rattle.std.specs.Prelude.{ℕ, ◌+◌, ◌*◌, ◌≤◌, ◌<◌, ◌≡◌, Bool, true, false, List, [], ◌∷◌, ◌++◌, Option, None, Some, IfSome, map, length, get_or, take, set, replicate}
use Rattle.rules.specs.declared.Stamp.{Stamp}
use Rattle.rules.specs.declared.Slot.{Slot}
use Rattle.rules.specs.Lists.{every}
use Rattle.rules.specs.Store.{Store, store_of}
use Rattle.rules.specs.Live.{held_count}
use Rattle.memo.specs.Slots.{slots_in}
use Rattle.theorems.specs.Leaves.{MarkedEntry, marked}
use Rattle.entries.specs.declared.Noted.{Noted}
use Rattle.entries.specs.Given.{Trusted}
use Rattle.entries.specs.Passes.{most, counters, stamp_of, key_of, counter_of, counted, entry_fine}

-- ---- what the code has read off the store before it goes through the pages
pub record Known (w : List ℕ) (p : ℕ) (next : Stamp) : Type 0 where
  pub trusted : Trusted w
  pub pages_many : p ≡ length (store_of w).pages
  pub pages_most : p ≤ 192
  pub long : 16 + 52 * p ≤ length w
  pub next_is : next ≡ (store_of w).next

-- what the passes over the entries know: the memo is lent, and the entries are at most so many as the buffers take
pub record Passing (w m : List ℕ) : Type 0 where
  pub trusted : Trusted w
  pub memo_is : slots_in m ≡ (store_of w).memo
  pub few : held_count (store_of w).pages ≤ most

-- ---- the pass over the entries
-- after the entries ks, each of which is sound
pub record Gathered (s : Store) (ks : List MarkedEntry) (noted : Noted) : Type 0 where
  pub fine : every (entry_fine s.next s.memo) ks ≡ true
  pub stamps_so_far : noted.stamps.items ≡ map stamp_of ks
  pub keys_so_far : noted.keys.items ≡ map (key_of s.memo) ks
  pub counts_long : length noted.counts ≡ counters
  pub counts_so_far : (i : ℕ) → i < counters → get_or noted.counts i 0 ≡ counted s.memo ks i

-- they are gathered, or an entry of the store is not sound
pub record Tried (s : Store) (ks : List MarkedEntry) (sound : Bool) (noted : Noted) : Type 0 where
  pub gathered : sound ≡ true → Gathered s ks noted
  pub broken : sound ≡ false → every (entry_fine s.next s.memo) (marked s.pages) ≡ false

-- a counter can go one up
abbrev pub Counts : List ℕ → Option ℕ → Type 0
Counts counts at = IfSome at (λ i. (i < length counts) × (get_or counts i 0 ≤ most))

-- a counter one up
abbrev pub one_up : List ℕ → Option ℕ → List ℕ
one_up counts None = counts
one_up counts (Some at) = set counts at (get_or counts at 0 + 1)

-- one entry more, sound or not
pub record OneMore (next : Stamp) (memo : List Slot) (k : MarkedEntry) (old : Noted) (fine : Bool) (new : Noted) : Type 0 where
  pub sound : fine ≡ entry_fine next memo k
  pub stamps_more : new.stamps.items ≡ old.stamps.items ++ (stamp_of k ∷ [])
  pub keys_more : new.keys.items ≡ old.keys.items ++ (key_of memo k ∷ [])
  pub counts_set : new.counts ≡ one_up old.counts (counter_of memo k)

-- what is gathered before page i
abbrev pub Before : List ℕ → ℕ → Noted → Type 0
Before w i noted = Gathered (store_of w) (marked (take i (store_of w).pages)) noted

-- buffers as they are at first
pub record Fresh (noted : Noted) : Type 0 where
  pub no_stamps : noted.stamps.items ≡ []
  pub no_keys : noted.keys.items ≡ []
  pub zeros : noted.counts ≡ replicate counters 0

-- there is room for one entry more
pub record Room (noted : Noted) : Type 0 where
  pub stamps_room : length noted.stamps.items < most
  pub keys_room : length noted.keys.items < most
  pub counts_long : length noted.counts ≡ counters
  pub counts_small : (i : ℕ) → get_or noted.counts i 0 ≤ most
