-- `attempt` finds what there is to find with one more tuple, `comb` goes from one tuple to the next, and `comb_all` finds the first support that
-- has the tuples chosen. From the laws of one member's turn, of the stage behind a tuple, of narrowed words, of tuples that failed, of one
-- without partners, and of the next live id.
use Rattle.std.proofs.Common.{◌≡◌, ◌+◌, ◌-◌, ◌%◌, ◌<◌, Bool, List, ℕ, length, get_or, take, eqb, refl, sym, ◌∙◌, ap, subst, arith, rules}
use mathlib.Core.Bool.{◌&&◌}
use lib.ListN.{set}
use borrow.Author.Tests.{eq-eqb, ne_eqb}
use Rattle.live.proofs.Ahead.{next-id}
use Rattle.support.specs.Search.{searching, net_of, id_at, past_own, place_behind, onward, MayLead, answer}
use Rattle.support.proofs.Walking.{exists}
use Rattle.support.proofs.Own.{behind-within}
use Rattle.support.proofs.Turn.{turn_on, turn_at, turn_tried, span-asks, walk-asks, walk-forward, come-first, come-from, come-none, id_is, come-attempt, walks-found, tried-none, passed-none, come-taken, passed-more, come-end, index_below, trial, come-clash}
use Rattle.support.proofs.Failed.{known-none, known_next, leads-nowhere}
use Rattle.support.proofs.Narrow.{fewer-words}
use Rattle.support.proofs.Alone.{sought-alone}
use Rattle.support.proofs.Behind.{behind-forth, behind-is, behind-others, behind-onward, behind-at, behind-bare}
use Rattle.support.proofs.+attempt_comb_comb_all.Goals as goal
use Rattle.support.proofs.+attempt_comb_comb_all.Goals.{attempt-then-resumes, attempt-else-resumes, comb-then-resumes, comb-else-resumes}

-- ---- comb_all

pub comb_all-span_of-span-requires : goal.comb_all-span_of-span-requires
comb_all-span_of-span-requires t c = let A = c.requires.long.1 in span-asks _ c.args.k A.seeking.sound A.inside

pub comb_all-next-from-requires : goal.comb_all-next-from-requires
comb_all-next-from-requires t c =
    let T = turn_on c.requires.long.1 (search rules) (search rules) c.span_of-span.result c.span_of-span.ensures in
    walk-asks T c.span_of-span.result.start (omega arith) (walk-forward T)

pub comb_all-comb-requires : goal.comb_all-comb-requires
comb_all-comb-requires t c =
    let T = turn_on c.requires.long.1 (search rules) (search rules) c.span_of-span.result c.span_of-span.ensures in
    (omega (arith, c.decreases), (c.requires.long, (rw c.next-from.ensures (come-first T), c.requires.k_in_bounds)))

-- ---- comb

pub comb-live_ids-g-items-requires : goal.comb-live_ids-g-items-requires
comb-live_ids-g-items-requires t c =
    let T = turn_at c.requires.long.1 (search rules) (search rules) c.tuple_start-first.ensures c.tuple_start-end.ensures in
    let C = c.requires.walk_at.0 in
    walk-asks T c.args.from C.from_start (omega (arith, C.to_end, T.is-end))

pub comb-loop-g-init : goal.comb-loop-g-init
comb-loop-g-init t c =
    let T = turn_at c.requires.long.1 (search rules) (search rules) c.tuple_start-first.ensures c.tuple_start-end.ensures in
    let ids = c.live_ids-g-items.ensures in
    let a = c.args in
    let Q = searching (λ (xs : List ℕ). xs) a.variables.now a.values.now a.starts.now a.words.now a.members.now a.place a.own a.low in
    rw c.into_iter-g-iterator.ensures.into_iter_gives
    (record { passed = passed-none T c.requires.walk_at.0 ids.words ids.start ids.end; known = known-none Q a.k a.resumes a.chosen })

pub comb-variables_from-common-requires : goal.comb-variables_from-common-requires
comb-variables_from-common-requires t c =
    let R = c.requires.long.1.seeking.sound in
    record { laid = R.laid; exist = λ j h. exists _ R j h }

pub comb-sieve_behind-sieve-requires : goal.comb-sieve_behind-sieve-requires
comb-sieve_behind-sieve-requires t c =
    let A = c.requires.long.1 in
    let R = A.seeking.sound in
    (c.requires.long.0, (record { laid = R.laid; exist = λ j h. exists _ R j h }, record { inside = A.inside; place_in = R.place; other = A.other }))

pub comb-overflow_sub-x : goal.comb-overflow_sub-x
comb-overflow_sub-x t c =
    let T = turn_at c.requires.long.1 (search rules) (search rules) c.tuple_start-first.ensures c.tuple_start-end.ensures in
    (come-from T c.in-Some.g (come-taken T c.requires.walk_at.0 c.loop-g.invariant.passed c.in-Some.ensures.steps)).0

-- the tuple with the id taken is on the walk
pub comb-may_lead-requires : goal.comb-may_lead-requires
comb-may_lead-requires t c =
    let sized : length c.args.chosen ≡ 4 = search rules in
    let low-sized : length c.args.low ≡ 4 = search rules in
    let T = turn_at c.requires.long.1 sized low-sized c.tuple_start-first.ensures c.tuple_start-end.ensures in
    let P = c.loop-g.invariant.passed in
    let takes = c.in-Some.ensures.steps in
    let A = come-attempt T c.in-Some.g (come-taken T c.requires.walk_at.0 P takes) (next-id P.ahead takes).below c.requires.long.1 c.requires.walk_at.1 in
    (trial (turn_tried A sized low-sized) (c.in-Some.g - c.tuple_start-first.result) A.from_start A.to_end, c.loop-g.invariant.known.0)

pub comb-hopeless-requires : goal.comb-hopeless-requires
comb-hopeless-requires t c =
    let A = c.requires.long.1 in
    let R = A.seeking.sound in
    record {
      long = (c.requires.long.0, (((record { laid = R.laid; indexed = A.seeking.indexed }, record { proper = R.members; few = R.few }), R.place), R.own));
      k_in_bounds = A.inside;
    }

pub comb-returns-then-hopeless : goal.comb-returns-then-hopeless
comb-returns-then-hopeless t c =
    let a = c.args in
    let A = c.requires.long.1 in
    let Q = searching (λ (xs : List ℕ). xs) a.variables.now a.values.now a.starts.now a.words.now a.members.now a.place a.own a.low in
    ap (λ (b : Bool). answer b (take (length a.members.now) a.chosen)) c.after.ensures
    ∙ sym (sought-alone Q A.seeking.sound a.k a.resumes a.chosen A.prefix (c.hopeless.ensures c.if-hopeless.true))

pub comb-attempt-found-requires : goal.comb-attempt-found-requires
comb-attempt-found-requires t c =
    let T = turn_at c.requires.long.1 (search rules) (search rules) c.tuple_start-first.ensures c.tuple_start-end.ensures in
    let P = c.loop-g.invariant.passed in
    let takes = c.in-Some.ensures.steps in
    (omega (arith, c.decreases), (c.requires.long.0, come-attempt T c.in-Some.g (come-taken T c.requires.walk_at.0 P takes) (next-id P.ahead takes).below c.requires.long.1 c.requires.walk_at.1))

pub comb-returns-then-kind-eq-FOUND : goal.comb-returns-then-kind-eq-FOUND
comb-returns-then-kind-eq-FOUND t c =
    let a = c.args in
    let T = turn_at c.requires.long.1 (search rules) (search rules) c.tuple_start-first.ensures c.tuple_start-end.ensures in
    let P = c.loop-g.invariant.passed in
    let takes = c.in-Some.ensures.steps in
    let f = c.attempt-found.result in
    let found = eq-eqb (f.kind % 2) 1 c.if-kind-eq-FOUND.true in
    let W = walks-found T c.in-Some.g (come-taken T c.requires.walk_at.0 P takes) (next-id P.ahead takes).below f c.attempt-found.ensures found in
    ap (λ (b : Bool). answer b (take (length a.members.now) f.tuples)) c.after-then-kind-eq-FOUND.ensures ∙ sym (W.found found)

pub comb-loop-g-preserved : goal.comb-loop-g-preserved
comb-loop-g-preserved t c =
    let a = c.args in
    let Q = searching (λ (xs : List ℕ). xs) a.variables.now a.values.now a.starts.now a.words.now a.members.now a.place a.own a.low in
    let sized : length a.chosen ≡ 4 = search rules in
    let low-sized : length a.low ≡ 4 = search rules in
    let T = turn_at c.requires.long.1 sized low-sized c.tuple_start-first.ensures c.tuple_start-end.ensures in
    let l = c.loop-g.invariant in
    let takes = c.in-Some.ensures.steps in
    let C = come-taken T c.requires.walk_at.0 l.passed takes in
    let below = (next-id l.passed.ahead takes).below in
    let A = come-attempt T c.in-Some.g C below c.requires.long.1 c.requires.walk_at.1 in
    let x = c.in-Some.g - c.tuple_start-first.result in
    let id = id_is T c.in-Some.g C below in
    let e : (a.resumes && eqb x (get_or a.low a.k 0)) ≡ c.if-resumes.resumed =
    elim c.if-resumes.branch [
      | comb-then-resumes w ↦ rw (w.if-resumes.true, w.resumed-is) refl
      | comb-else-resumes w ↦ rw (w.resumed-is, w.if-resumes.false) refl
    ]
    in
    let lead : MayLead Q.lists Q.members Q.place Q.own a.k a.chosen x c.sieve_behind-sieve.result c.variables_from-common.result (a.resumes && eqb x (get_or Q.low a.k 0)) c.loop-g.failed c.may_lead.result c.may_lead.new.failed =
    subst
    (λ (r : Bool). MayLead Q.lists a.members.now a.place a.own a.k a.chosen x c.sieve_behind-sieve.result c.variables_from-common.result r c.loop-g.failed c.may_lead.result c.may_lead.new.failed)
    (sym e) c.may_lead.ensures
    in
    let none = leads-nowhere {Q = Q} {k = a.k} {resumes = a.resumes} {chosen = a.chosen} l.known lead (turn_tried A sized low-sized) c.variables_from-common.ensures A.from_start A.to_end c.sieve_behind-sieve.ensures c.if-may_lead.false in
    record { passed = passed-more T c.requires.walk_at.0 l.passed takes (ap (onward Q a.k a.chosen) (sym id) ∙ none); known = known_next {Q = Q} {k = a.k} {resumes = a.resumes} {chosen = a.chosen} l.known lead A.from_start A.to_end A.lives none }

pub comb-loop-g-preserved-else-kind-eq-FOUND : goal.comb-loop-g-preserved-else-kind-eq-FOUND
comb-loop-g-preserved-else-kind-eq-FOUND t c =
    let a = c.args in
    let Q = searching (λ (xs : List ℕ). xs) a.variables.now a.values.now a.starts.now a.words.now a.members.now a.place a.own a.low in
    let sized : length a.chosen ≡ 4 = search rules in
    let low-sized : length a.low ≡ 4 = search rules in
    let T = turn_at c.requires.long.1 sized low-sized c.tuple_start-first.ensures c.tuple_start-end.ensures in
    let l = c.loop-g.invariant in
    let takes = c.in-Some.ensures.steps in
    let C = come-taken T c.requires.walk_at.0 l.passed takes in
    let below = (next-id l.passed.ahead takes).below in
    let A = come-attempt T c.in-Some.g C below c.requires.long.1 c.requires.walk_at.1 in
    let x = c.in-Some.g - c.tuple_start-first.result in
    let id = id_is T c.in-Some.g C below in
    let e : (a.resumes && eqb x (get_or a.low a.k 0)) ≡ c.if-resumes.resumed =
    elim c.if-resumes.branch [
      | comb-then-resumes w ↦ rw (w.if-resumes.true, w.resumed-is) refl
      | comb-else-resumes w ↦ rw (w.resumed-is, w.if-resumes.false) refl
    ]
    in
    let lead : MayLead Q.lists Q.members Q.place Q.own a.k a.chosen x c.sieve_behind-sieve.result c.variables_from-common.result (a.resumes && eqb x (get_or Q.low a.k 0)) c.loop-g.failed c.may_lead.result c.may_lead.new.failed =
    subst
    (λ (r : Bool). MayLead Q.lists a.members.now a.place a.own a.k a.chosen x c.sieve_behind-sieve.result c.variables_from-common.result r c.loop-g.failed c.may_lead.result c.may_lead.new.failed)
    (sym e) c.may_lead.ensures
    in
    let f = c.attempt-found.result in
    let none = tried-none T c.in-Some.g C below f c.attempt-found.ensures (ne_eqb (f.kind % 2) 1 c.if-kind-eq-FOUND.false) in
    record { passed = passed-more T c.requires.walk_at.0 l.passed takes none; known = known_next {Q = Q} {k = a.k} {resumes = a.resumes} {chosen = a.chosen} l.known lead A.from_start A.to_end A.lives (ap (onward Q a.k a.chosen) id ∙ none) }

pub comb-returns : goal.comb-returns
comb-returns t c =
    let a = c.args in
    let T = turn_at c.requires.long.1 (search rules) (search rules) c.tuple_start-first.ensures c.tuple_start-end.ensures in
    ap (λ (b : Bool). answer b (take (length a.members.now) a.chosen)) c.after-2.ensures
    ∙ sym (come-none T c.tuple_start-end.result (come-end T c.requires.walk_at.0 c.loop-g.invariant.passed c.in-None.ensures.steps) (omega arith))

-- ---- attempt

pub attempt-narrow_members-requires : goal.attempt-narrow_members-requires
attempt-narrow_members-requires t c =
    let a = c.args in
    let A = c.requires.1 in
    let T = turn_tried A (search rules) (search rules) in
    let s = c.past_own-stage.result in
    let e : s ≡ past_own a.place a.own (a.k + 1) (set a.chosen a.k a.x) = cc in (
      c.requires.0,
      (record { laid = A.turn.seeking.sound.laid; indexed = A.turn.seeking.indexed; own = index_below T a.x A.from_start A.to_end }, behind-others T a.x s e),
    )

pub attempt-fits-requires : goal.attempt-fits-requires
attempt-fits-requires t c =
    let A = c.requires.1 in
    trial (turn_tried A (search rules) (search rules)) c.args.x A.from_start A.to_end

pub attempt-returns-else-fits : goal.attempt-returns-else-fits
attempt-returns-else-fits t c =
    let A = c.requires.1 in
    sym (come-clash (turn_tried A (search rules) (search rules)) c.args.x A.from_start A.to_end (sym c.fits.ensures ∙ c.if-fits.false))

pub attempt-returns-else-narrow_members : goal.attempt-returns-else-narrow_members
attempt-returns-else-narrow_members t c =
    let a = c.args in
    let Q = searching (λ (xs : List ℕ). xs) a.variables.now a.values.now a.starts.now a.words.now a.members.now a.place a.own a.low in
    let A = c.requires.1 in
    let T = turn_tried A (search rules) (search rules) in
    let s = c.past_own-stage.result in
    let e : s ≡ past_own a.place a.own (a.k + 1) (set a.chosen a.k a.x) = cc in
    let fewer = c.narrow_members.new.words in
    let over = fewer-words Q A.turn.seeking.sound (id_at (net_of Q) a.members.now a.k a.x) fewer c.narrow_members.ensures.1.0 c.narrow_members.ensures.0 in
    sym (behind-bare T a.x s e A.turn.lives A.from_start A.to_end A.lives fewer over (c.narrow_members.ensures.1.1 c.if-narrow_members.false))

pub attempt-comb_all-requires : goal.attempt-comb_all-requires
attempt-comb_all-requires t c =
    let a = c.args in
    let Q = searching (λ (xs : List ℕ). xs) a.variables.now a.values.now a.starts.now a.words.now a.members.now a.place a.own a.low in
    let A = c.requires.1 in
    let T = turn_tried A (search rules) (search rules) in
    let s = c.past_own-stage.result in
    let e : s ≡ past_own a.place a.own (a.k + 1) (set a.chosen a.k a.x) = cc in
    let fewer = c.narrow_members.new.words in
    let over = fewer-words Q A.turn.seeking.sound (id_at (net_of Q) a.members.now a.k a.x) fewer c.narrow_members.ensures.1.0 c.narrow_members.ensures.0 in
    let on : (a.resumes && eqb a.x (get_or a.low a.k 0)) ≡ c.if-resumes.resuming =
    elim c.if-resumes.branch [
      | attempt-then-resumes w ↦ rw (w.if-resumes.true, w.resuming-is) refl
      | attempt-else-resumes w ↦ rw (w.resuming-is, w.if-resumes.false) refl
    ]
    in
    let is = behind-is T a.x s e in
    let two : c.place_behind-2.result ≡ place_behind a.place (place_behind a.place a.k) = c.place_behind-2.ensures ∙ ap (place_behind a.place) c.place_behind.ensures in
    let left : place_behind a.place (place_behind a.place a.k) < length a.members.now =
    omega (arith, behind-within a.place (place_behind a.place a.k) (length a.members.now) A.further A.turn.seeking.sound.place, two, c.if-place_behind-members.false)
    in (
      omega (arith, c.decreases, A.turn.inside, behind-forth T a.x s e, is, A.further),
      (
        (
          c.narrow_members.ensures.0,
          behind-at T a.x s e A.turn.lives A.from_start A.to_end A.lives fewer over (sym c.fits.ensures ∙ c.if-fits.true) a.index.now A.turn.seeking.indexed A.further c.if-resumes.resuming on,
        ),
        subst (λ (n : ℕ). place_behind a.place n < length a.members.now) (sym is) left,
      ),
    )

pub attempt-returns-then-fits : goal.attempt-returns-then-fits
attempt-returns-then-fits t c =
    let a = c.args in
    let Q = searching (λ (xs : List ℕ). xs) a.variables.now a.values.now a.starts.now a.words.now a.members.now a.place a.own a.low in
    let A = c.requires.1 in
    let T = turn_tried A (search rules) (search rules) in
    let s = c.past_own-stage.result in
    let e : s ≡ past_own a.place a.own (a.k + 1) (set a.chosen a.k a.x) = cc in
    let fewer = c.narrow_members.new.words in
    let over = fewer-words Q A.turn.seeking.sound (id_at (net_of Q) a.members.now a.k a.x) fewer c.narrow_members.ensures.1.0 c.narrow_members.ensures.0 in
    c.comb_all.ensures ∙ behind-onward T a.x s e A.turn.lives A.from_start A.to_end A.lives fewer over (sym c.fits.ensures ∙ c.if-fits.true)
