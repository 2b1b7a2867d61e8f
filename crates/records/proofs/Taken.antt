-- Laws of records taken apart one after the other: the first i of them, one more, and all that the parts have room for.
-- From the definition of `parts_of`.
use mathlib.Core.Path.{◌≡◌, refl, sym, ◌∙◌, ap}
use mathlib.Core.Logic.{◌⊎◌, inl, inr}
use mathlib.Core.List.{List, [], ◌∷◌, map}
use Prim.Native.Nat.{ℕ, suc, ◌≤◌}
use native.Mathlib.Decide.{dec_le}
use native.Mathlib.Omega.{arith}
use lib.ListN.{length, get_or, set, take, replicate, length-map, get_or-map}
use Rattle.model.specs.declared.Relation.{Relation}
use Rattle.model.specs.declared.Record.{Record}
use Rattle.model.specs.Limits.{max_relations}
use Rattle.model.specs.Network.{variables_in, tuples_in}
use Rattle.layout.specs.Shape.{padded, shape_of}
use Rattle.records.specs.declared.Parts.{Parts}
use Rattle.records.specs.Records.{relation_in, live_at, relations_in, no_record, lesser, parts_of, unread, with_record}
use Rattle.records.proofs.Padded.{padded-none, padded-next, padded-front}

-- a number of each relation of the records
map-relations_in : (f : Relation → ℕ) (Rs : List Record) → map f (relations_in Rs) ≡ map (λ (R : Record). f (relation_in R)) Rs
map-relations_in f [] = refl
map-relations_in f (R ∷ Rs) = ap (λ (ns : List ℕ). f (relation_in R) ∷ ns) (map-relations_in f Rs)

abbrev width_at : Record → ℕ
width_at R = variables_in (relation_in R)

abbrev tuples_at : Record → ℕ
tuples_at R = tuples_in (relation_in R)

module _ (Rs : List Record) where
  -- a number of each of the first i records, and noughts behind them
  abbrev first : (Record → ℕ) → ℕ → List ℕ
  first f i = padded max_relations (take i (map f Rs))

  -- the first i records taken apart
  unfoldable pub taken : ℕ → Parts
  taken i =
      record {
        shape = record { count = length Rs; widths = first width_at i; tuples = first tuples_at i };
        live = first live_at i;
      }

  pub taken_none : taken 0 ≡ unread (length Rs)
  unfolding taken
  taken_none =
      let none : padded max_relations [] ≡ replicate max_relations 0 = sym (padded-none max_relations) in
      λ j. record { shape = record { count = length Rs; widths = none j; tuples = none j }; live = none j }

  pub taken_next : (i : ℕ) → taken (suc i) ≡ with_record (taken i) i (get_or Rs i no_record)
  unfolding taken
  taken_next i =
      λ j.
      record {
        shape = record { count = length Rs; widths = next width_at refl j; tuples = next tuples_at refl j };
        live = next live_at refl j;
      }
    where
      next : (f : Record → ℕ) → f no_record ≡ 0 → first f (suc i) ≡ set (first f i) i (f (get_or Rs i no_record))
      next f e =
          sym (padded-next max_relations i (map f Rs))
          ∙ ap (set (first f i) i) (ap (get_or (map f Rs) i) (sym e) ∙ get_or-map f Rs i no_record)

  pub taken-all : taken (lesser (length Rs)) ≡ parts_of Rs
  unfolding taken shape_of
  taken-all =
      λ j.
      record {
        shape =
            record {
              count = sym (length-map Rs relation_in) j;
              widths = (all width_at ∙ ap (padded max_relations) (sym (map-relations_in variables_in Rs))) j;
              tuples = (all tuples_at ∙ ap (padded max_relations) (sym (map-relations_in tuples_in Rs))) j;
            };
        live = all live_at j;
      }
    where
      long : (n k : ℕ) → k ≡ n → Dec (n ≤ max_relations) → (max_relations ≤ lesser n) ⊎ (k ≤ lesser n)
      long n k e (yes h) = inr (omega (arith, e, h))
      long n k e (no h) = inl (omega (arith, h))

      all : (f : Record → ℕ) → first f (lesser (length Rs)) ≡ padded max_relations (map f Rs)
      all f =
          padded-front max_relations (lesser (length Rs)) (map f Rs)
          (long (length Rs) (length (map f Rs)) (length-map Rs f) (dec_le (length Rs) max_relations))
