-- What one entry more does to the first entries of a list of bytes, which each width of entries proves.
use mathlib.Core.Path.{◌≡◌, sym, ap, ◌∙◌}
use mathlib.Core.List.{List, [], ◌∷◌, ◌++◌}
use Prim.Native.Nat.{ℕ, zero, suc, ◌+◌, ◌*◌}
use native.Mathlib.Nat.{add_comm, mul-zero, mul-suc}
use native.Mathlib.Numerals.{add-one}
use lib.ListN.{take, drop}
use lib.Seq.{drop-drop}
use Rattle.wire.specs.Entries.{value, entry_at, entries}

-- the bytes behind entry number i of a list without its first entry
pub behind : (k i : ℕ) (bs : List ℕ) → drop (k * i) (drop k bs) ≡ drop (k * suc i) bs
behind k i bs = drop-drop (k * i) k bs ∙ ap (λ (m : ℕ). drop m bs) (add_comm k (k * i) ∙ sym (mul-suc k i))

pub entries_next : (k n : ℕ) (bs : List ℕ) → entries k (n + 1) bs ≡ entries k n bs ++ (entry_at k bs n ∷ [])
unfolding entry_at
entries_next k zero bs = rw mul-zero
entries_next k (suc n) bs =
    rw (add-one (suc n))
    (ap (λ (r : List ℕ). value (take k bs) ∷ r)
    (rw add-one at (entries_next k n (drop k bs)) ∙ ap (λ (d : List ℕ). entries k n (drop k bs) ++ (value (take k d) ∷ [])) (behind k n bs)))
