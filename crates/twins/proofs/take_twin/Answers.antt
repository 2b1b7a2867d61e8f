-- `take_twin`: what is found under the variables of either side is such a tuple, and was sought.
-- From the laws of twins, and of the table.
use Rattle.std.proofs.Common.{◌≡◌, refl, sym, ap, subst, ◌∙◌, List, ℕ, ◌+◌, ◌<◌, get_or, arith}
use Rattle.model.specs.TupleSet.{has}
use Rattle.model.specs.Network.{total}
use Rattle.model.specs.Combination.{pair_member}
use Rattle.model.specs.LiveWords.{is_live}
use Rattle.layout.specs.Starts.{tuple_start}
use Rattle.layout.specs.Setting.{Setting, network, live_in}
use Rattle.layout.specs.Pairs.{tuple_id}
use Rattle.layout.proofs.SoundStarts.{tuple-start, tuples-few}
use Rattle.layout.proofs.Pairs.{member_below, tuple-below}
use Rattle.doubles.specs.Alike.{Alike}
use Rattle.doubles.specs.Doubles.{FirstAlike}
use Rattle.doubles.proofs.Entries.{alike-after}
use Rattle.twins.specs.Twins.{Noted, TwinAt, Earlier, Twins, LiveTwins}
use Rattle.twins.proofs.Taking.{common-near, lives-is, was-sought, fallen-twin}
use Rattle.twins.proofs.take_twin.Goals as goal
use Rattle.twins.proofs.take_twin.Goals.{then-sides-eq0, else-sides-eq0}

-- with the pair's place, and the first id of its member, as they are read
module _ {G : Setting} {words numbers : List ℕ} {p x place : ℕ} (A : TwinAt G words numbers p x place) (pair first : ℕ) (q : pair ≡ p) (f : first ≡ tuple_start G.lists.starts (get_or G.members pair 0)) where
  -- the id of a tuple k of the member
  id-is : (k : ℕ) → first + k ≡ tuple_start G.lists.starts (pair_member G.members p) + k
  id-is k = ap (λ (g : ℕ). g + k) (f ∙ ap (λ (i : ℕ). tuple_start G.lists.starts (get_or G.members i 0)) q)

  own-below : first + x < total (network G)
  own-below =
      let sound = A.at.sound in
      let b = member_below sound.laid.framed sound.paired p A.at.pair in
      omega (arith, id-is x, tuple-start sound.laid.framed (pair_member G.members p) (omega (arith, b)), tuple-below sound p x A.at.pair A.index)

  -- what is found in the table is an earlier tuple
  earlier : {sought : List ℕ} → Noted G words p x sought → (set y : ℕ) (after : List ℕ) → FirstAlike G.lists set (get_or G.members pair 0) x sought y after → Earlier G words p x set y
  earlier noted set y after found =
      record {
        alike = λ l. subst (λ (i : ℕ). Alike G.lists set (get_or G.members i 0) x y) q (found.alike l);
        sought = λ l. let at = found.entry l in was-sought A y l noted at.0 at.1 at.2;
      }

  lives : (y : ℕ) → y < x → has (live_in G words) (tuple_id G p y) ≡ is_live words (first + y)
  lives y l = lives-is A y l ∙ ap (is_live words) (sym (id-is y))

pub far_twin-z-requires-clause-x_bound : goal.far_twin-z-requires-clause-x_bound
far_twin-z-requires-clause-x_bound c =
    let A = c.requires.twin_at in
    omega (arith, own-below A c.wide.result _ c.wide.ensures.0 c.tuple_start-first.ensures, tuples-few A.at.sound.laid.framed, A.enough)

pub overflow_add-first : goal.overflow_add-first
overflow_add-first c =
    let A = c.requires.twin_at in
    omega (arith, own-below A c.wide.result _ c.wide.ensures.0 c.tuple_start-first.ensures, tuples-few A.at.sound.laid.framed)

pub is_live-requires : goal.is_live-requires
is_live-requires c =
    let A = c.requires.twin_at in
    omega (arith, own-below A c.wide.result _ c.wide.ensures.0 c.tuple_start-first.ensures, A.enough)

pub returns-then-sides-eq0-2-clause-outcome : goal.returns-then-sides-eq0-2-clause-outcome
returns-then-sides-eq0-2-clause-outcome c =
    let A = c.requires.twin_at in
    let sides = c.args.sides in
    let y = c.alike_soon-y.result in
    let before : y < c.args.x = omega arith in
    let T = earlier A c.wide.result _ c.wide.ensures.0 c.tuple_start-first.ensures c.requires.noted.0 sides.near y _ c.alike_soon-y.ensures in
    let dead = lives A c.wide.result _ c.wide.ensures.0 c.tuple_start-first.ensures y before ∙ sym c.is_live.ensures ∙ c.if-not-is_live.true in
    (refl, fallen-twin A y before (T.sought before) sides.near (common-near A sides c.requires.noted.1 c.if-sides-eq0-2.true) dead (T.alike before))

pub take-requires-clause-twins : goal.take-requires-clause-twins
take-requires-clause-twins c =
    let a = c.args in
    let A = c.requires.twin_at in
    let G : Setting = record { lists = record { variables = a.variables.now; values = a.values.now; starts = a.starts.now }; members = a.members.now; m = a.m } in
    let words = a.words.now in
    let sides = a.sides in
    let first = c.tuple_start-first.result in
    let y = c.alike_soon-y.result in
    let y-before : y < a.x = omega arith in
    let z-before : c.if-sides-eq0.z < a.x = omega arith in
    let near = earlier A c.wide.result _ c.wide.ensures.0 c.tuple_start-first.ensures c.requires.noted.0 sides.near y _ c.alike_soon-y.ensures in
    let y-lives = lives A c.wide.result _ c.wide.ensures.0 c.tuple_start-first.ensures y y-before ∙ sym c.is_live.ensures ∙ c.if-not-is_live.false in
    let Both : ℕ → Type 0 = λ z. Twins G words a.p a.x sides y z × LiveTwins G words a.p a.x y z in
    elim c.if-sides-eq0.branch [
      | then-sides-eq0 w ↦ subst Both (sym w.z-is) (
        record { near = near; far = λ d. absurd (d w.if-sides-eq0.true); one = λ _. refl },
        record { y-before = y-before; z-before = y-before; y-lives = y-lives; z-lives = y-lives },
      )
      | else-sides-eq0 w ↦
          let T = w.far_twin-z.ensures in
          let before : w.far_twin-z.result < a.x = omega (arith, w.z-is, z-before) in
          subst Both (sym w.z-is) (
            record {
              near = near;
              far = λ _. earlier A c.wide.result _ c.wide.ensures.0 c.tuple_start-first.ensures c.requires.noted.0 sides.far w.far_twin-z.result _ (alike-after a.x a.sought.now _ _ c.alike_soon-y.ensures.entered T.found);
              one = λ e. absurd (w.if-sides-eq0.false e);
            },
            record {
              y-before = y-before;
              z-before = before;
              y-lives = y-lives;
              z-lives = lives A c.wide.result _ c.wide.ensures.0 c.tuple_start-first.ensures w.far_twin-z.result before ∙ T.lives before;
            },
          )
    ]
