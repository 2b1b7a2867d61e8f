-- Laws of narrowing: relation s narrowed for a tuple of relation r, and the members of a combination, one after the other.
-- From the law that whatever agrees is in all rows of the tuple's values, and the laws of ids.
use mathlib.Core.Path.{◌≡◌, refl, sym, ◌∙◌, ap, subst}
use mathlib.Core.Bool.{Bool, true, ◌&&◌, and-true}
use mathlib.Core.List.{List}
use mathlib.Core.Logic.{⊎_elim}
use Prim.Native.Nat.{ℕ, ◌+◌, ◌≤◌, ◌<◌}
use native.Mathlib.Omega.{arith}
use native.Mathlib.Decide.{ℕ_discrete}
use lib.Dec.{ltb, leb}
use Rattle.model.specs.Network.{Network, size, first_id}
use Rattle.model.specs.Agreement.{agree}
use Rattle.model.specs.LiveWords.{is_live, next_live}
use Rattle.model.proofs.Bools.{and_left, and_intro, or_right}
use Rattle.model.proofs.Network.{ids-apart}
use Rattle.model.proofs.LiveWords.{next_live-first}
use Rattle.layout.specs.Starts.{tuple_start}
use Rattle.layout.specs.Setting.{Lists, network_in, SoundLists}
use Rattle.layout.proofs.SoundStarts.{tuple-start, tuple-end, ids-few, ids-within}
use Rattle.value_index.specs.Index.{Indexed}
use Rattle.narrowing.specs.Narrows.{stays, KeptIds, NoneLive, Agreeing, Dead, Narrowed, HasBits}
use Rattle.narrowing.proofs.Words.{stays-before, stays-behind}

-- ---- A relation

-- the ids of relations up to it have their bits in the rows of the index
pub ids-have-bits : {L : Lists} → SoundLists L → {index : List ℕ} → Indexed (network_in L) index → (s end : ℕ) → s < 64 → end ≡ tuple_start L.starts (s + 1) → HasBits index end
ids-have-bits laid indexed s end h e =
    (omega (arith, e, ids-within laid.framed s h, indexed.bits), omega (arith, e, ids-few laid.framed s h))

-- The ids of relation s begin at `from` and end at `to`, and have their bits there.
pub record IdsOf (N : Network) (index : List ℕ) (s from to : ℕ) : Type 0 where
  pub begin : from ≡ first_id N s
  pub stop : to ≡ first_id N s + size N s
  pub bits : HasBits index to

pub ids-of : {L : Lists} → SoundLists L → {index : List ℕ} → Indexed (network_in L) index → (s from to : ℕ) → s < 64 → from ≡ tuple_start L.starts s → to ≡ tuple_start L.starts (s + 1) → IdsOf (network_in L) index s from to
ids-of laid indexed s from to h ef et =
    record {
      begin = ef ∙ tuple-start laid.framed s (omega arith);
      stop = et ∙ tuple-end laid.framed s h;
      bits = ids-have-bits laid indexed s to h et;
    }

pub agreeing-none : (N : Network) (r x s : ℕ) (ws : List ℕ) → Agreeing N r x s ws ws
agreeing-none N r x s ws = record { inside = λ g e. e; outside = λ g o. refl; keeps = λ z h a e. e }

module _ (N : Network) (s start end : ℕ) (es : start ≡ first_id N s) (ee : end ≡ first_id N s + size N s) where
  -- narrowed by a test that every tuple passes which agrees
  pub kept-agreeing : (r x : ℕ) (passes : ℕ → Bool) (before after : List ℕ) → ((z : ℕ) → z < size N s → agree N (first_id N r + x) (first_id N s + z) ≡ true → passes (first_id N s + z) ≡ true) → KeptIds passes start end before after → Agreeing N r x s before after
  kept-agreeing r x passes before after told kept =
      record {
        inside = λ g e. and_left (is_live before g) (stays passes start end g) (sym (kept g) ∙ e);
        outside = λ g o. kept g ∙ ap (λ (y : Bool). is_live before g && y) (⊎_elim (λ l. stays-before passes start end g (omega arith)) (λ l. stays-behind passes start end g (omega arith)) o) ∙ and-true (is_live before g);
        keeps = λ z h a e. let g = first_id N s + z in kept g ∙ and_intro e (or_right (ltb g start) (or_right (leb end g) (told z h a)));
      }

  -- none of its ids is live
  pub dead-none : (ws : List ℕ) → NoneLive start end ws → Dead N s ws
  dead-none ws none z h = none (first_id N s + z) (omega arith) (omega arith)

  -- .. where the next live id is past them
  pub dead-past : (ws : List ℕ) → end ≤ next_live ws start end → Dead N s ws
  dead-past ws h = dead-none ws (λ g l k. (next_live-first ws start end (omega arith)).none_before g l (omega arith))

-- ---- Members

module _ (N : Network) (y : ℕ) where
  pub narrowed_none : (ws : List ℕ) → Narrowed N y ws ws
  narrowed_none ws = record { inside = λ g e. e; keeps = λ s z h a e. e; itself = refl }

  pub narrowed-on : (a b c : List ℕ) → Narrowed N y a b → Narrowed N y b c → Narrowed N y a c
  narrowed-on a b c f g =
      record {
        inside = λ h e. f.inside h (g.inside h e);
        keeps = λ s z h p e. g.keeps s z h p (f.keeps s z h p e);
        itself = g.itself ∙ f.itself;
      }

-- relation s, which is not the tuple's own
pub narrowed-one : (N : Network) (r x s : ℕ) → x < size N r → (s ≡ r → ⊥) → (before after : List ℕ) → Agreeing N r x s before after → Narrowed N (first_id N r + x) before after
narrowed-one N r x s h d before after a =
    record {
      inside = a.inside;
      keeps = λ q z k p e. keep q z k p e (ℕ_discrete s q);
      itself = a.outside (first_id N r + x) (ids-apart N r x s h d);
    }
  where
    keep : (q z : ℕ) → z < size N q → agree N (first_id N r + x) (first_id N q + z) ≡ true → is_live before (first_id N q + z) ≡ true → Dec (s ≡ q) → is_live after (first_id N q + z) ≡ true
    keep q z k p e (yes c) =
        subst (λ (n : ℕ). z < size N n → agree N (first_id N r + x) (first_id N n + z) ≡ true → is_live before (first_id N n + z) ≡ true → is_live after (first_id N n + z) ≡ true) c (a.keeps z) k p e
    keep q z k p e (no c) = a.outside (first_id N q + z) (ids-apart N q z s k c) ∙ e
