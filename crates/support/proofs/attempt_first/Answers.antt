-- The live words are narrowed in the room lent for the tuple tried, and, if this fits, `search_two` or `comb_all` is called for the members
-- behind. From the laws of one member's turn, of words put into a room and narrowed, and of the stage behind a tuple tried.
use Rattle.std.proofs.Common.{◌≡◌, ◌+◌, List, ℕ, length, get_or, eqb, refl, sym, ◌∙◌, ap, subst, arith, rules}
use mathlib.Core.Bool.{◌&&◌}
use lib.ListN.{set}
use Rattle.model.specs.LiveWords.{words_for}
use Rattle.layout.specs.Starts.{tuple_start}
use Rattle.narrowing.specs.Narrows.{Narrowed}
use Rattle.support.specs.Search.{searching, net_of, id_at, SearchAt, past_own, span, sought, onward}
use Rattle.support.proofs.Turn.{turn_tried, index_below, trial, come-clash}
use Rattle.support.proofs.Narrow.{on_words, Fewer, put-few, fewer-put, put-long}
use Rattle.support.proofs.Behind.{behind-others, behind-onward, behind-at, behind-bare}
use Rattle.support.proofs.attempt_first.Goals as goal
use Rattle.support.proofs.attempt_first.Goals.{After-past_own-stage, After-words_for, After-narrow_members, Joined-resumes, then-resumes, else-resumes}

-- ---- The turn, and the stage behind

staged : (c : After-past_own-stage) → c.past_own-stage.result ≡ past_own c.args.place c.args.own (c.args.k + 1) (set c.args.chosen c.args.k c.args.x)
staged c = c.past_own-stage.ensures ∙ ap (past_own c.args.place c.args.own (c.args.k + 1)) c.put.ensures

-- ---- The words put into the room, and narrowed there

-- they are those of the network's tuples
many : (c : After-words_for) → c.words_for.result ≡ words_for (tuple_start c.args.starts.now 64)
many c = cc

pub put_back-requires : goal.put_back-requires
put_back-requires c =
    let few = (put-few _ c.requires.long.1.turn.seeking.sound c.words_for.result (many (goal.at.put_back-requires c).After-words_for)).0 in
    (c.requires.long.0, (few, omega (arith, few, c.requires.long_2.0)))

pub narrow_members-requires : goal.narrow_members-requires
narrow_members-requires c =
    let A = c.requires.long.1 in
    let T = turn_tried A (search rules) (search rules) in
    let p = goal.at.narrow_members-requires c in (
      ap length c.put_back.ensures ∙ put-long _ A.turn.seeking.sound c.words_for.result (many p.After-words_for) c.args.spare.now c.requires.long.0 c.requires.long_2.0,
      (
        record { laid = A.turn.seeking.sound.laid; indexed = A.turn.seeking.indexed; own = index_below T c.args.x A.from_start A.to_end },
        behind-others T c.args.x c.past_own-stage.result (staged p.After-past_own-stage),
      ),
    )

pub fits-requires : goal.fits-requires
fits-requires c =
    let A = c.requires.long.1 in
    trial (turn_tried A (search rules) (search rules)) c.args.x A.from_start A.to_end

over : (c : After-narrow_members) → let a = c.args in let Q = searching (λ (xs : List ℕ). xs) a.variables.now a.values.now a.starts.now a.words.now a.members.now a.place a.own a.low in Fewer Q (id_at (net_of Q) a.members.now a.k a.x) c.narrow_members.new.words
over c =
    let a = c.args in
    let Q = searching (λ (xs : List ℕ). xs) a.variables.now a.values.now a.starts.now a.words.now a.members.now a.place a.own a.low in
    let y = id_at (net_of Q) a.members.now a.k a.x in
    let n : c.words_for.result ≡ words_for (tuple_start a.starts.now 64) = cc in
    fewer-put Q c.requires.long.1.turn.seeking.sound c.words_for.result n y a.spare.now c.narrow_members.new.words c.requires.long.0
    (subst (λ (ws : List ℕ). Narrowed (net_of Q) y ws c.narrow_members.new.words) c.put_back.ensures c.narrow_members.ensures.1.0)
    c.narrow_members.ensures.0

pub returns-else-narrow_members-clause-attempts : goal.returns-else-narrow_members-clause-attempts
returns-else-narrow_members-clause-attempts c =
    let A = c.requires.long.1 in
    let p = goal.at.returns-else-narrow_members-clause-attempts c in
    sym
    (behind-bare (turn_tried A (search rules) (search rules)) c.args.x c.past_own-stage.result (staged p.After-past_own-stage) A.turn.lives A.from_start A.to_end A.lives c.narrow_members.new.words (over p.After-narrow_members)
    (c.narrow_members.ensures.1.1 c.if-narrow_members.false))

pub returns-else-fits-clause-attempts : goal.returns-else-fits-clause-attempts
returns-else-fits-clause-attempts c =
    let A = c.requires.long.1 in
    sym (come-clash (turn_tried A (search rules) (search rules)) c.args.x A.from_start A.to_end (sym c.fits.ensures ∙ c.if-fits.false))

-- ---- The search behind

-- what is known once the tuple fits: the turn of the member behind, and that what there is to find there is what there is to find onward
behind : (c : Joined-resumes) →
    let a = c.args in
    let Q = searching (λ (xs : List ℕ). xs) a.variables.now a.values.now a.starts.now a.words.now a.members.now a.place a.own a.low in
    let s = c.past_own-stage.result in
    Fewer Q (id_at (net_of Q) a.members.now a.k a.x) c.narrow_members.new.words
    → SearchAt (on_words Q c.narrow_members.new.words) a.index.now s.k c.if-resumes.resuming s.chosen
    × (sought (on_words Q c.narrow_members.new.words) s.k s.chosen ≡ onward Q a.k a.chosen ((span Q a.k a.resumes).first + a.x))
behind c F =
    let a = c.args in
    let A = c.requires.long.1 in
    let T = turn_tried A (search rules) (search rules) in
    let s = c.past_own-stage.result in
    let e : s ≡ past_own a.place a.own (a.k + 1) (set a.chosen a.k a.x) = cc in
    let fitting = sym c.fits.ensures ∙ c.if-fits.true in
    let on : (a.resumes && eqb a.x (get_or a.low a.k 0)) ≡ c.if-resumes.resuming =
    elim c.if-resumes.branch [
      | then-resumes w ↦ rw (w.if-resumes.true, w.resuming-is) refl
      | else-resumes w ↦ rw (w.resuming-is, w.if-resumes.false) refl
    ]
    in (
      behind-at T a.x s e A.turn.lives A.from_start A.to_end A.lives c.narrow_members.new.words F fitting a.index.now A.turn.seeking.indexed A.further c.if-resumes.resuming on,
      behind-onward T a.x s e A.turn.lives A.from_start A.to_end A.lives c.narrow_members.new.words F fitting,
    )

pub search_two-requires-clause-long : goal.search_two-requires-clause-long
search_two-requires-clause-long c = (c.narrow_members.ensures.0, (let p = goal.at.search_two-requires-clause-long c in behind p.Joined-resumes (over p.After-narrow_members)).0)

pub comb_all-requires-clause-long : goal.comb_all-requires-clause-long
comb_all-requires-clause-long c = (c.narrow_members.ensures.0, (let p = goal.at.comb_all-requires-clause-long c in behind p.Joined-resumes (over p.After-narrow_members)).0)

pub returns-then-place_behind-members-clause-attempts : goal.returns-then-place_behind-members-clause-attempts
returns-then-place_behind-members-clause-attempts c = c.search_two.ensures ∙ (let p = goal.at.returns-then-place_behind-members-clause-attempts c in behind p.Joined-resumes (over p.After-narrow_members)).1
