-- Laws of the last turn: one tuple more is chosen, and then every member has its tuple.
-- From the laws of one member's turn, of the seeking tuple's own member, and of the search's ends.
use mathlib.Core.Path.{◌≡◌, refl, sym, ◌∙◌, ap}
use mathlib.Core.Bool.{Bool, true, false, ◌&&◌}
use mathlib.Core.Option.{none, some}
use mathlib.Core.List.{List}
use Prim.Native.Nat.{ℕ, ◌+◌, ◌-◌, ◌≤◌, ◌<◌}
use native.Mathlib.Omega.{arith}
use native.Mathlib.Decide.{ℕ_discrete}
use lib.Dec.{eqb}
use lib.ListN.{length, get_or, take, set, length-set}
use lib.Seq.{get_or-set_same, get_or-set_other}
use borrow.Author.Tests.{eqb-true}
use Rattle.model.specs.Network.{size}
use Rattle.model.specs.TupleSet.{has}
use Rattle.model.specs.LiveWords.{is_live}
use Rattle.support.specs.declared.Stage.{Stage}
use Rattle.support.specs.Search.{Search, net_of, live_of, seeker, fits, Trials, FirstFitting, past_own, place_behind, span, onward, sought}
use Rattle.support.proofs.Walking.{member_below}
use Rattle.support.proofs.Own.{NextStage, next-stage, past-place}
use Rattle.support.proofs.Ends.{turn-done}
use Rattle.support.proofs.Turn.{Turn, come-none, come-found, come-more, onward-more, come-fitting, fitting-is, fitting-fits}

module _ {Q : Search} {k : ℕ} {resumes : Bool} {chosen : List ℕ} {first begin end : ℕ} (T : Turn Q k resumes chosen first begin end) where
  -- ---- A tuple more

  -- the search goes on resuming where it resumes here and the tuple has the bound's index
  abbrev pub resumed : ℕ → Bool
  resumed x = resumes && eqb x (get_or Q.low k 0)

  module _ (lively : has (live_of Q) (seeker Q) ≡ true) where
    module _ (x : ℕ) (from : (span Q k resumes).start ≤ first + x) (to : first + x < end) (lives : is_live Q.words (first + x) ≡ true) (f : fits (net_of Q) Q.members Q.place Q.own k chosen x ≡ true) (s : Stage) (e : s ≡ past_own Q.place Q.own (k + 1) (set chosen k x)) where
      -- which fits: the stage behind it
      pub stage-behind : NextStage Q (resumed x) (k + 1) (set chosen k x) s
      stage-behind =
          next-stage Q T.ready (resumed x) (k + 1) (set chosen k x) (length-set chosen k x ∙ T.sized) T.low-sized lively
          (come-more T x from to lives f) s e

      -- what there is to find then is what there is to find onward
      pub stage-onward : sought Q s.k s.chosen ≡ onward Q k chosen (first + x)
      stage-onward = stage-behind.same ∙ onward-more T x from to

    -- ---- The last one

    module _ (last : place_behind Q.place k ≡ length Q.members) (g : ℕ) (F : FirstFitting (net_of Q) Q.members Q.place Q.own k chosen Q.words begin g) where
      pub last_found : g < end → (s : Stage) → s ≡ past_own Q.place Q.own (k + 1) (set chosen k (g - first)) → sought Q k chosen ≡ some (take (length Q.members) s.chosen)
      last_found h s e =
          let C = come-fitting T g F in
          let is = fitting-is T g F in
          let x = g - first in
          let from : (span Q k resumes).start ≤ first + x = omega (arith, is, C.from_start) in
          let to : first + x < end = omega (arith, is, h) in
          let lives : is_live Q.words (first + x) ≡ true = ap (is_live Q.words) is ∙ C.lives (omega (arith, h, T.is-end)) in
          let f = fitting-fits T g F h in
          let S = stage-behind x from to lives f s e in
          let q : s.k ≡ length Q.members = ap (λ (s : Stage). s.k) e ∙ past-place Q.place Q.own k (set chosen k x) ∙ last in
          come-found T g C h (take (length Q.members) s.chosen)
          (ap (onward Q k chosen) (sym is)
          ∙ sym (stage-onward x from to lives f s e)
          ∙ turn-done Q T.ready (resumed x) s.chosen S.sized s.k q S.prefix)

    pub last_none : (g : ℕ) → FirstFitting (net_of Q) Q.members Q.place Q.own k chosen Q.words begin g → end ≤ g → sought Q k chosen ≡ none
    last_none g F h = come-none T g (come-fitting T g F) h

  -- ---- What its tests ask

  -- whether the tuple before it fits or not
  pub trials-behind : (x : ℕ) → x < size (net_of Q) (get_or Q.members k 0) → (s : Stage) → s ≡ past_own Q.place Q.own (k + 1) (set chosen k x) → s.k < length Q.members → Trials Q.lists Q.members Q.place Q.own s.k s.chosen
  trials-behind x h s e inside =
      record {
        laid = T.ready.laid;
        inside = inside;
        few = T.ready.few;
        relation = member_below Q T.ready s.k inside;
        each =
            λ y l.
            record {
              laid = T.ready.laid;
              inside = inside;
              few = T.ready.few;
              place_in = T.ready.place;
              own_in = T.ready.own;
              index = l;
              within = λ j b. (go (eqb (k + 1) Q.place) refl).0 j b;
              own-chosen = λ b. (go (eqb (k + 1) Q.place) refl).1 b;
            };
      }
    where
      Known : ℕ → List ℕ → Type 0
      Known n t = ((j : ℕ) → j < n → get_or t j 0 < size (net_of Q) (get_or Q.members j 0)) × (Q.place < n → get_or t Q.place 0 ≡ Q.own)

      more : List ℕ
      more = set chosen k x

      at : (j : ℕ) → j < k + 1 → Dec (j ≡ k) → get_or more j 0 < size (net_of Q) (get_or Q.members j 0)
      at j b (yes q) = rw q (rw (get_or-set_same chosen k x 0 (omega (arith, T.sized, T.ready.few, T.inside))) h)
      at j b (no q) = rw (get_or-set_other chosen k j x 0 q) (T.begun.within j (omega arith))

      before-it : Q.place < k + 1 → Q.place < k
      before-it b = let d : k ≡ Q.place → ⊥ = T.other in omega arith

      first-known : Known (k + 1) more
      first-known = (
        λ j b. at j b (ℕ_discrete j k),
        λ b. get_or-set_other chosen k Q.place x 0 (λ q. T.other (sym q)) ∙ T.begun.own (before-it b),
      )

      own_at : k + 1 ≡ Q.place → (j : ℕ) → j < k + 1 + 1 → Dec (j ≡ k + 1) → get_or (set more (k + 1) Q.own) j 0 < size (net_of Q) (get_or Q.members j 0)
      own_at p j b (yes q) = rw q (rw (get_or-set_same more (k + 1) Q.own 0 (omega (arith, length-set chosen k x, T.sized, T.ready.few, T.ready.place))) (rw p T.ready.own))
      own_at p j b (no q) = rw (get_or-set_other more (k + 1) j Q.own 0 q) (first-known.0 j (omega arith))

      go : (b : Bool) → eqb (k + 1) Q.place ≡ b → Known s.k s.chosen
      go true q =
          let p = eqb-true (k + 1) Q.place q in
          let is : s ≡ record { k = k + 1 + 1; chosen = set more (k + 1) Q.own } = rw q at e in
          rw is
          (λ j b. own_at p j b (ℕ_discrete j (k + 1)), λ b. rw (sym p) (get_or-set_same more (k + 1) Q.own 0 (omega (arith, length-set chosen k x, T.sized, T.ready.few, T.ready.place))))
      go false q =
          let is : s ≡ record { k = k + 1; chosen = more } = rw q at e in
          rw is first-known
