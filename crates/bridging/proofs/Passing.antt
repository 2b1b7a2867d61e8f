-- Laws of the tuples that pass: one that agrees with a live tuple of each of the two other relations, which agree with each other, does; and of
-- a relation whose tuples fall one after the other.
-- From the laws of classes, of columns that two relations share, and of live words.
use mathlib.Core.Path.{◌≡◌, refl, sym, ◌∙◌, ap, subst}
use mathlib.Core.Bool.{Bool, true, cond}
use mathlib.Core.List.{List}
use mathlib.Core.Logic.{inl, ⊎_elim}
use Prim.Native.Nat.{ℕ, ◌+◌, ◌*◌, ◌<◌}
use native.Mathlib.Decide.{ℕ_discrete}
use native.Mathlib.Omega.{arith}
use lib.ListN.{length}
use borrow.Author.Tests.{eq-eqb, ne_eqb}
use Rattle.model.specs.Network.{Network, size, first_id}
use Rattle.model.specs.Agreement.{agree}
use Rattle.model.specs.LiveWords.{is_live, cleared}
use Rattle.model.proofs.LiveWords.{cleared-length}
use Rattle.live.proofs.Stores.{cleared-fewer, cleared-other}
use Rattle.layout.specs.Setting.{Lists, network_in, SoundLists}
use Rattle.layout.proofs.Places.{scope-few, below-limit}
use Rattle.narrowing.specs.Narrows.{Long}
use Rattle.narrowing.specs.declared.sieve.Shared.{Shared}
use Rattle.narrowing.specs.Sieve.{value_in, SharedIn}
use Rattle.narrowing.proofs.Sieves.{shared-fit}
use Rattle.bridging.specs.Bridge.{of_any, class_of, class_at, sought_row, Of, Has, Reaches, Reached, Passes, Narrowing, Between}
use Rattle.bridging.proofs.Classes.{class-meet, class-found}

-- ---- Columns

-- the class in a column of the relation is that of its value there
class-in : (N : Network) (r x column factor : ℕ) → (column ≡ 8 → ⊥) → class_at N r x column factor ≡ class_of factor (value_in N r x column)
class-in N r x column factor d = ap (λ (b : Bool). cond b of_any (class_of factor (value_in N r x column))) (ne_eqb column 8 d)

class-out : (N : Network) (r x column factor : ℕ) → column ≡ 8 → class_at N r x column factor ≡ of_any
class-out N r x column factor e = ap (λ (b : Bool). cond b of_any (class_of factor (value_in N r x column))) (eq-eqb column 8 e)

module _ {L : Lists} (laid : SoundLists L) (factor : ℕ) (words : List ℕ) where
  abbrev N : Network
  N = network_in L

  -- where the one column is of its relation, so is the other
  other-in : (r s : ℕ) (shared : Shared) → SharedIn N r s shared → s < 64 → (shared.own ≡ 8 → ⊥) → shared.other ≡ 8 → ⊥
  other-in r s shared S few d e = omega (arith, e, (S.same d).1, scope-few laid s few)

  -- what a table has for a tuple of s is found for one of r that agrees with it
  found : (r s over : ℕ) (shared : Shared) → SharedIn N r s shared → ((shared.own ≡ 8 → ⊥) → shared.other ≡ 8 → ⊥) → (table : List ℕ) → Reaches N s shared.other over factor words table → (x y c : ℕ) → x < size N r → y < size N s → is_live words (first_id N s + y) ≡ true → agree N (first_id N r + x) (first_id N s + y) ≡ true → c < 256 → Of (class_at N s y over factor) c → Reached table (sought_row (class_at N r x shared.own factor)) c
  found r s over shared S apart table T x y c hx hy live agrees hc o = go (ℕ_discrete shared.own 8)
    where
      all : Has table 257 c
      all = T.all y c hy live hc o

      go : Dec (shared.own ≡ 8) → Reached table (sought_row (class_at N r x shared.own factor)) c
      go (yes e) = subst (λ (n : ℕ). Reached table (sought_row n) c) (sym (class-out N r x shared.own factor e)) (inl all)
      go (no d) =
          subst (λ (n : ℕ). Reached table (sought_row n) c) (sym (class-in N r x shared.own factor d))
          (class-found factor (value_in N r x shared.own) (value_in N s y shared.other) (shared-fit laid r s shared S d x y hx hy agrees) table c
          (subst (λ (n : ℕ). Has table n c) (class-in N s y shared.other factor (apart d)) (T.own y c hy live hc o)) all)

  -- a tuple between the two passes
  pub between-passes : (r s t : ℕ) (a b over : Shared) → SharedIn N r s a → SharedIn N r t b → SharedIn N s t over → (over.own ≡ 8 → ⊥) → (near far : List ℕ) → Reaches N s a.other over.own factor words near → Reaches N t b.other over.other factor words far → (x : ℕ) → x < size N r → Between N r s t words x → Passes N r a.own b.own factor near far x
  between-passes r s t a b over A B O some near far R F x hx W =
      let m = class-meet factor (value_in N s W.y over.own) (value_in N t W.z over.other) (shared-fit laid s t over O some W.y W.z W.y-in W.z-in W.each-other) in
      record {
        c = m.0;
        below = m.1;
        in_near = found r s over.own a A (other-in r s a A (below-limit laid s W.y W.y-in)) near R x W.y m.0 hx W.y-in W.y-lives W.with-y m.1 (subst (λ (n : ℕ). Of n m.0) (sym (class-in N s W.y over.own factor some)) m.2);
        in-far = found r t over.other b B (other-in r t b B (below-limit laid t W.z W.z-in)) far F x W.z m.0 hx W.z-in W.z-lives W.with-z m.1 (subst (λ (n : ℕ). Of n m.0) (sym (class-in N t W.z over.other factor (other-in s t over O (below-limit laid t W.z W.z-in) some))) m.3);
      }

-- ---- Tuples that fall

module _ (N : Network) (r : ℕ) (test : ℕ → Type 0) where
  pub narrowing_none : (words : List ℕ) → Long words → Narrowing N r test words words
  narrowing_none words long = record { long = long; inside = λ g e. e; outside = λ g o. refl; keeps = λ x h p e. e }

  -- one falls of which the test does not hold
  module _ {before now : List ℕ} (W : Narrowing N r test before now) (x : ℕ) (hx : x < size N r) (few : first_id N r + x < 4096) (fails : test x → ⊥) where
    fallen : Narrowing N r test before (cleared (first_id N r + x) now)
    fallen =
        let room : first_id N r + x < 64 * length now = omega (arith, W.long) in
        record {
          long = cleared-length (first_id N r + x) now ∙ W.long;
          inside = λ g e. W.inside g (cleared-fewer now (first_id N r + x) room g e);
          outside = λ g o. cleared-other now (first_id N r + x) room g (λ q. ⊎_elim (λ b. omega (arith, b, q)) (λ b. omega (arith, b, q, hx)) o) ∙ W.outside g o;
          keeps = λ z h p e. cleared-other now (first_id N r + x) room (first_id N r + z) (λ q. fails (subst test (omega (arith, q)) p)) ∙ W.keeps z h p e;
        }

    pub narrowing-more : (g : ℕ) → g ≡ first_id N r + x → (after : List ℕ) → after ≡ cleared g now → Narrowing N r test before after
    narrowing-more g id after e = subst (Narrowing N r test before) (sym (e ∙ ap (λ (h : ℕ). cleared h now) id)) fallen

  -- the same of a test that is met more often
  pub narrowing-by : (other : ℕ → Type 0) → ((x : ℕ) → x < size N r → other x → test x) → {before after : List ℕ} → Narrowing N r test before after → Narrowing N r other before after
  narrowing-by other f W = record { long = W.long; inside = W.inside; outside = W.outside; keeps = λ x h p. W.keeps x h (f x h p) }
