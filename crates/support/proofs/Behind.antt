-- Laws of the stage behind a tuple tried, over words narrowed for this tuple: what there is to find there is what there is to find onward.
-- From the laws of one member's turn, of the stage behind it, and of narrowed words.
use mathlib.Core.Path.{◌≡◌, refl, sym, ◌∙◌, ap, subst}
use mathlib.Core.Bool.{Bool, true, false}
use mathlib.Core.Option.{none}
use mathlib.Core.List.{List, Memᴰ}
use Prim.Native.Nat.{ℕ, ◌+◌, ◌≤◌, ◌<◌}
use native.Mathlib.Omega.{arith}
use lib.ListN.{length, get_or, set}
use lib.Seq.{get_or-set_same}
use Rattle.model.specs.TupleSet.{has}
use Rattle.model.specs.LiveWords.{is_live}
use Rattle.value_index.specs.Index.{Indexed}
use Rattle.narrowing.specs.Narrows.{Others, Bare}
use Rattle.support.specs.declared.Stage.{Stage}
use Rattle.support.specs.Search.{Search, net_of, live_of, id_at, seeker, chosen_ids, Prefix, SearchAt, fits, past_own, place_behind, span, onward, sought}
use Rattle.support.proofs.Chosen.{chosen-mem}
use Rattle.support.proofs.Own.{NextStage, past-forth, past-place}
use Rattle.support.proofs.Turn.{Turn, come-clash, agrees-own}
use Rattle.support.proofs.Last.{resumed, stage-behind, stage-onward}
use Rattle.support.proofs.Narrow.{on_words, others, Fewer, ready-narrowed, sought-bare, prefix-narrowed, sought-narrowed}

module _ {Q : Search} {k : ℕ} {resumes : Bool} {chosen : List ℕ} {first begin end : ℕ} (T : Turn Q k resumes chosen first begin end) (x : ℕ) (s : Stage) (e : s ≡ past_own Q.place Q.own (k + 1) (set chosen k x)) where
  pub behind-forth : k + 1 ≤ s.k
  behind-forth = subst (λ (s : Stage). k + 1 ≤ s.k) (sym e) (past-forth Q.place Q.own (k + 1) (set chosen k x))

  pub behind-is : s.k ≡ place_behind Q.place k
  behind-is = ap (λ (s : Stage). s.k) e ∙ past-place Q.place Q.own k (set chosen k x)

  -- the members from there on are other relations than this one
  pub behind-others : Others Q.members Q.place s.k (get_or Q.members k 0)
  behind-others = let l = behind-forth in others Q T.ready k s.k T.inside (λ j h q. omega (arith, l, h.from-k))

  module _ (lively : has (live_of Q) (seeker Q) ≡ true) (from : (span Q k resumes).start ≤ first + x) (to : first + x < end) (lives : is_live Q.words (first + x) ≡ true) (words : List ℕ) (F : Fewer Q (id_at (net_of Q) Q.members k x) words) where
    abbrev fit : Bool
    fit = fits (net_of Q) Q.members Q.place Q.own k chosen x

    module _ (f : fit ≡ true) where
      stage : NextStage Q (resumed T x) (k + 1) (set chosen k x) s
      stage = stage-behind T lively x from to lives f s e

      -- the tuple is one of those chosen
      mem : Memᴰ (id_at (net_of Q) Q.members k x) (chosen_ids (net_of Q) Q.members s.chosen s.k)
      mem =
          let same : get_or s.chosen k 0 ≡ x = stage.kept k (omega arith) ∙ get_or-set_same chosen k x 0 (omega (arith, T.sized, T.ready.few, T.inside)) in
          subst (λ (i : ℕ). Memᴰ (id_at (net_of Q) Q.members k i) (chosen_ids (net_of Q) Q.members s.chosen s.k)) same
          (chosen-mem (net_of Q) Q.members s.chosen s.k k (omega (arith, stage.forth)))

      pub behind-onward : sought (on_words Q words) s.k s.chosen ≡ onward Q k chosen (first + x)
      behind-onward = sought-narrowed F s.k s.chosen mem ∙ stage-onward T lively x from to lives f s e

      -- it is the turn of the member there, if there is one
      pub behind-at : (index : List ℕ) → Indexed (net_of Q) index → place_behind Q.place k < length Q.members → (on : Bool) → resumed T x ≡ on → SearchAt (on_words Q words) index s.k on s.chosen
      behind-at index indexed further on is-on =
          record {
            seeking = record { sound = ready-narrowed F; indexed = indexed };
            prefix = subst (λ (b : Bool). Prefix (on_words Q words) s.k b s.chosen) is-on (prefix-narrowed F s.k s.chosen mem (resumed T x) stage.prefix);
            lives = F.narrower.keeps (seeker Q) lively (agrees-own T x from to f);
            inside = omega (arith, behind-is, further);
            other = stage.other;
          }

    -- where a member has no live tuple left, the tuple leads to nothing
    pub behind-bare : Bare (net_of Q) Q.members Q.place s.k words → onward Q k chosen (first + x) ≡ none
    behind-bare E = go fit refl
      where
        go : (b : Bool) → fit ≡ b → onward Q k chosen (first + x) ≡ none
        go true f = sym (behind-onward f) ∙ sought-bare F s.k s.chosen E
        go false f = come-clash T x from to f
