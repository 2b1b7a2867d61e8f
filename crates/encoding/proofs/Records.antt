-- Records read one after the other into two arrays.
-- From the definitions, and the laws of lists of numbers from nought on.
use mathlib.Core.Path.{◌≡◌, refl, sym, ap, ◌∙◌}
use mathlib.Core.List.{List, [], ◌∷◌, map}
use Prim.Native.Nat.{ℕ, zero, suc, ◌+◌, ◌*◌, ◌/◌, ◌≤◌, ◌<◌, min}
use native.Mathlib.Nat.{zero-add, le_of_suc-le-suc, not-suc-le-zero}
use native.Mathlib.Numerals.{add-one}
use native.Mathlib.Omega.{arith}
use lib.ListN.{length, take, get_or, set, replicate, length-map, get_or-map}
use lib.Seq.{take_all}
use Rattle.model.specs.declared.Relation.{Relation}
use Rattle.model.specs.Limits.{max_relations}
use Rattle.model.specs.Lists.{from}
use Rattle.model.specs.Network.{no_relation, variables_in, tuples_in}
use Rattle.model.proofs.Lists.{length_from, get_d-map-from}
use Rattle.layout.specs.declared.Shape.{Shape}
use Rattle.layout.specs.Shape.{padded, shape_of}
use Rattle.wire.specs.Entries.{entry_at}
use Rattle.encoding.specs.Records.{record_in, records}

-- one number more
pub padded-next : (n r x : ℕ) (xs : List ℕ) → r < n → r < length xs → get_or xs r 0 ≡ x → set (padded n (take r xs)) r x ≡ padded n (take (r + 1) xs)
unfolding padded
padded-next zero r x xs h l e = absurd (not-suc-le-zero h)
padded-next (suc n) r x [] h l e = absurd (not-suc-le-zero l)
padded-next (suc n) zero x (y ∷ ys) h l e = ap (λ (z : ℕ). z ∷ padded n []) (sym e)
padded-next (suc n) (suc r) x (y ∷ ys) h l e =
    rw (add-one (suc r)) (ap (λ (zs : List ℕ). y ∷ zs) (padded-next n r x ys (le_of_suc-le-suc h) (le_of_suc-le-suc l) e ∙ ap (λ (k : ℕ). padded n (take k ys)) (add-one r)))

-- the front holds all that there is room for
pub padded-front : (n r : ℕ) (xs : List ℕ) → min (length xs) n ≤ r → padded n (take r xs) ≡ padded n xs
unfolding padded
padded-front zero r xs h = refl
padded-front (suc n) r [] h = ap (padded (suc n)) (take_all r [] (omega arith))
padded-front (suc n) zero (x ∷ xs) h = let none : suc (min (length xs) n) ≤ 0 = omega arith in absurd (not-suc-le-zero none)
padded-front (suc n) (suc r) (x ∷ xs) h = ap (λ (zs : List ℕ). x ∷ zs) (padded-front n r xs (omega arith))

-- .. and gives them back
pub padded-take : (n : ℕ) (xs : List ℕ) → length xs ≤ n → take (length xs) (padded n xs) ≡ xs
unfolding padded
padded-take n [] h = refl
padded-take zero (x ∷ xs) h = absurd (not-suc-le-zero h)
padded-take (suc n) (x ∷ xs) h = ap (λ (zs : List ℕ). x ∷ zs) (padded-take n xs (le_of_suc-le-suc h))

module _ (bs : List ℕ) where
  pub records-length : length (records bs) ≡ length bs / 6
  unfolding records
  records-length = length-map (from 0 (length bs / 6)) (record_in bs) ∙ length_from 0 (length bs / 6)

  -- the records taken apart are as many
  pub shape-count : (S : Shape) → S ≡ shape_of (records bs) → S.count ≡ length bs / 6
  unfolding shape_of
  shape-count S e = ap (λ (T : Shape). T.count) e ∙ records-length

  -- a number of each record
  abbrev numbers : (Relation → ℕ) → List ℕ
  numbers f = map f (records bs)

  numbers-length : (f : Relation → ℕ) → length (numbers f) ≡ length bs / 6
  numbers-length f = length-map (records bs) f ∙ records-length

  numbers-at : (f : Relation → ℕ) → f no_relation ≡ 0 → (r : ℕ) → r < length bs / 6 → get_or (numbers f) r 0 ≡ f (record_in bs r)
  unfolding records
  numbers-at f z r h =
      ap (get_or (numbers f) r) (sym z)
      ∙ get_or-map f (records bs) r no_relation
      ∙ ap f (get_d-map-from (record_in bs) 0 (length bs / 6) r no_relation h ∙ ap (record_in bs) (zero-add r))

  -- The arrays hold the numbers of the first r records, and noughts behind them.
  pub record Apart (r : ℕ) (widths tuples : List ℕ) : Type 0 where
    pub of-widths : widths ≡ padded max_relations (take r (numbers variables_in))
    pub of-tuples : tuples ≡ padded max_relations (take r (numbers tuples_in))

  pub apart-start : Apart 0 (replicate max_relations 0) (replicate max_relations 0)
  unfolding padded
  apart-start = record { of-widths = refl; of-tuples = refl }

  module _ (r : ℕ) (widths tuples : List ℕ) (a : Apart r widths tuples) where
    pub apart_next : r < max_relations → r < length bs / 6 → Apart (r + 1) (set widths r (entry_at 2 bs (3 * r))) (set tuples r (entry_at 2 bs (3 * r + 1)))
    apart_next h l =
        record {
          of-widths = next variables_in refl widths a.of-widths;
          of-tuples = next tuples_in refl tuples a.of-tuples;
        }
      where
        next : (f : Relation → ℕ) → f no_relation ≡ 0 → (ns : List ℕ) → ns ≡ padded max_relations (take r (numbers f)) → set ns r (f (record_in bs r)) ≡ padded max_relations (take (r + 1) (numbers f))
        next f z ns e =
            ap (λ (ms : List ℕ). set ms r (f (record_in bs r))) e
            ∙ padded-next max_relations r (f (record_in bs r)) (numbers f) h (rw (numbers-length f) l) (numbers-at f z r l)

    pub apart-end : min (length bs / 6) max_relations ≤ r → record { count = length bs / 6; widths = widths; tuples = tuples } ≡ shape_of (records bs)
    unfolding shape_of
    apart-end h = λ j. record { count = sym records-length j; widths = whole variables_in widths a.of-widths j; tuples = whole tuples_in tuples a.of-tuples j }
      where
        whole : (f : Relation → ℕ) (ns : List ℕ) → ns ≡ padded max_relations (take r (numbers f)) → ns ≡ padded max_relations (numbers f)
        whole f ns e = e ∙ padded-front max_relations r (numbers f) (rw (numbers-length f) h)
