-- The first fitting tuple of the member behind completes a support, if the tuple tried fits. From the laws of the last member's turn.
use Rattle.std.proofs.Common.{◌≡◌, true, false, Bool, ◌+◌, ◌<◌, List, ℕ, length, get_or, eqb, refl, sym, ◌∙◌, ap, subst, arith, rules}
use mathlib.Core.Bool.{◌&&◌}
use mathlib.Core.Option.{Option, none}
use mathlib.Core.Logic.{◌⊎◌}
use lib.ListN.{set}
use lib.Seq.{get_or-set_same}
use Rattle.support.specs.declared.Span.{Span}
use Rattle.support.specs.declared.Stage.{Stage}
use Rattle.support.specs.Search.{Search, net_of, AttemptAt, Prefix, fits, past_own, place_behind, span_at, span, onward, sought}
use Rattle.support.proofs.Walking.{span-inside}
use Rattle.support.proofs.Turn.{Turn, turn_on, turn_tried, span-asks, index_below, trial, come-clash}
use Rattle.support.proofs.Own.{past-kept}
use Rattle.support.proofs.Last.{stage-behind, stage-onward, last_found, last_none, trials-behind}
use Rattle.support.proofs.Behind.{behind-forth, behind-is}
use Rattle.support.proofs.attempt_last.Goals as goal
use Rattle.support.proofs.attempt_last.Goals.{After-past_own-stage, Joined-resumes, then-resumes, else-resumes}

staged : (c : After-past_own-stage) → c.past_own-stage.result ≡ past_own c.args.place c.args.own (c.args.k + 1) (set c.args.chosen c.args.k c.args.x)
staged c = cc

resuming : (c : Joined-resumes) → (c.args.resumes && eqb c.args.x (get_or c.args.low c.args.k 0)) ≡ c.if-resumes.resuming
resuming c =
    elim c.if-resumes.branch [
      | then-resumes w ↦ rw (w.if-resumes.true, w.resuming-is) refl
      | else-resumes w ↦ rw (w.resuming-is, w.if-resumes.false) refl
    ]

-- ---- The turn of the member behind

module _ {Q : Search} {index : List ℕ} {k : ℕ} {resumes : Bool} {chosen : List ℕ} {x : ℕ} (A : AttemptAt Q index k resumes chosen x) (sized : length chosen ≡ 4) (low-sized : length Q.low ≡ 4) (s : Stage) (e : s ≡ past_own Q.place Q.own (k + 1) (set chosen k x)) where
  inside : s.k < length Q.members
  inside = omega (arith, behind-is (turn_tried A sized low-sized) x s e, A.further)

  clash : fits (net_of Q) Q.members Q.place Q.own k chosen x ≡ false → onward Q k chosen ((span Q k resumes).first + x) ≡ none
  clash = come-clash (turn_tried A sized low-sized) x A.from_start A.to_end

  module _ (on : Bool) (is-on : (resumes && eqb x (get_or Q.low k 0)) ≡ on) (w : Span) (spans : w ≡ span_at Q.lists.starts (get_or Q.members s.k 0) on (get_or Q.low s.k 0)) (f : fits (net_of Q) Q.members Q.place Q.own k chosen x ≡ true) where
    last-turn : Turn Q s.k on s.chosen w.first w.start w.end
    last-turn =
        let S = stage-behind (turn_tried A sized low-sized) A.turn.lives x A.from_start A.to_end A.lives f s e in
        turn_on {index = index}
        (record { seeking = A.turn.seeking; prefix = subst (λ (b : Bool). Prefix Q s.k b s.chosen) is-on S.prefix; lives = A.turn.lives; inside = inside; other = S.other })
        S.sized low-sized w spans

    ahead : sought Q s.k s.chosen ≡ onward Q k chosen ((span Q k resumes).first + x)
    ahead = stage-onward (turn_tried A sized low-sized) A.turn.lives x A.from_start A.to_end A.lives f s e

-- nothing is found, whether a test is passed or not
either : (b : Bool) (found : Option (List ℕ)) → (b ≡ false → found ≡ none) → (b ≡ true → found ≡ none) → none ≡ found
either b found fails fits = go b refl
  where
    go : (v : Bool) → b ≡ v → none ≡ found
    go true e = sym (fits e)
    go false e = sym (fails e)

-- ---- What is asked

pub span_of-span-requires : goal.span_of-span-requires
span_of-span-requires c =
    let A = c.requires.long.1 in
    let e = staged (goal.at.span_of-span-requires c).After-past_own-stage in
    span-asks _ c.past_own-stage.result.k A.turn.seeking.sound (inside A (search rules) (search rules) c.past_own-stage.result e)

pub first_fitting-g-requires : goal.first_fitting-g-requires
first_fitting-g-requires c =
    let a = c.args in
    let A = c.requires.long.1 in
    let sound = A.turn.seeking.sound in
    let sized : length a.chosen ≡ 4 = search rules in
    let T = turn_tried A sized (search rules) in
    let s = c.past_own-stage.result in
    let e = staged (goal.at.first_fitting-g-requires c).After-past_own-stage in
    let within = inside A sized (search rules) s e in
    let below = index_below T a.x A.from_start A.to_end in
    let i = span-inside _ s.k sound within c.if-resumes.resuming in
    let begin = ap (λ (w : Span). w.start) c.span_of-span.ensures in
    let kept : a.x ≡ get_or s.chosen a.k 0 =
    sym
    (ap (λ (s : Stage). get_or s.chosen a.k 0) e
    ∙ past-kept a.place a.own (a.k + 1) (set a.chosen a.k a.x) a.k (omega arith)
    ∙ get_or-set_same a.chosen a.k a.x 0 (omega (arith, sized, sound.few, A.turn.inside))) in (
      c.requires.long.0,
      record {
        trials = trials-behind T a.x below s e within;
        indexed = A.turn.seeking.indexed;
        from_first = omega (arith, begin, i.from_first);
        to_end = omega (arith, begin, i.forward, i.end_is);
        by-inside = A.turn.inside;
        by-own = below;
        fixed = ◌⊎◌.inr (omega (arith, behind-forth T a.x s e), kept);
      },
    )

pub fits-requires : goal.fits-requires
fits-requires c = let A = c.requires.long.1 in trial (turn_tried A (search rules) (search rules)) c.args.x A.from_start A.to_end

-- ---- What is found

pub returns-then-fits : goal.returns-then-fits
returns-then-fits c =
    let a = c.args in
    let A = c.requires.long.1 in
    let sized : length a.chosen ≡ 4 = search rules in
    let low-sized : length a.low ≡ 4 = search rules in
    let s = c.past_own-stage.result in
    let p = goal.at.returns-then-fits c in
    let e = staged p.After-past_own-stage in
    let f = sym c.fits.ensures ∙ c.if-fits.true in
    let on = resuming p.Joined-resumes in
    let T = last-turn A sized low-sized s e c.if-resumes.resuming on c.span_of-span.result c.span_of-span.ensures f in
    sym
    (sym (ahead A sized low-sized s e c.if-resumes.resuming on c.span_of-span.result c.span_of-span.ensures f)
    ∙ last_found T A.turn.lives (ap (place_behind a.place) (behind-is (turn_tried A sized low-sized) a.x s e) ∙ c.requires.k_value) c.first_fitting-g.result c.first_fitting-g.ensures c.if-g-span.true c.past_own-full.result
    (c.past_own-full.ensures ∙ ap (past_own a.place a.own (s.k + 1)) c.put-then-fits.ensures))

pub returns-else-fits : goal.returns-else-fits
returns-else-fits c =
    let A = c.requires.long.1 in
    let e = staged (goal.at.returns-else-fits c).After-past_own-stage in
    sym (clash A (search rules) (search rules) c.past_own-stage.result e (sym c.fits.ensures ∙ c.if-fits.false))

pub returns-else-g-span : goal.returns-else-g-span
returns-else-g-span c =
    let a = c.args in
    let A = c.requires.long.1 in
    let sized : length a.chosen ≡ 4 = search rules in
    let low-sized : length a.low ≡ 4 = search rules in
    let s = c.past_own-stage.result in
    let p = goal.at.returns-else-g-span c in
    let e = staged p.After-past_own-stage in
    let on = resuming p.Joined-resumes in
    either _ _
    (clash A sized low-sized s e)
    (λ f.
    sym (ahead A sized low-sized s e c.if-resumes.resuming on c.span_of-span.result c.span_of-span.ensures f)
    ∙ last_none (last-turn A sized low-sized s e c.if-resumes.resuming on c.span_of-span.result c.span_of-span.ensures f) A.turn.lives c.first_fitting-g.result c.first_fitting-g.ensures c.if-g-span.false)
