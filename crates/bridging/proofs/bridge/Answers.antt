use Rattle.std.proofs.Common.{ℕ, ◌<◌, arith}
use Rattle.layout.specs.Setting.{Lists, network_in, SoundLists}
use Rattle.layout.proofs.Places.{scope-length}
use Rattle.narrowing.specs.declared.sieve.Shared.{Shared}
use Rattle.narrowing.specs.Sieve.{SharedIn}
use Rattle.bridging.specs.Bridge.{ColumnOr, Between}
use Rattle.bridging.proofs.Passing.{between-passes, narrowing-by}
use Rattle.bridging.proofs.bridge.Goals as goal

-- columns that two relations share are columns of theirs
module _ {L : Lists} (laid : SoundLists L) (r s : ℕ) (shared : Shared) (S : SharedIn (network_in L) r s shared) where
  own-column : r < 64 → ColumnOr (network_in L) r shared.own
  own-column h d = omega (arith, (S.same d).0, scope-length laid r h)

  other-column : s < 64 → ColumnOr (network_in L) s shared.other
  other-column h d = omega (arith, (S.same (λ e. d (S.none e))).1, scope-length laid s h)

pub reached_by-near-requires-clause-column_or : goal.reached_by-near-requires-clause-column_or
reached_by-near-requires-clause-column_or c =
    let p = c.requires.1 in
    (other-column p.0 c.args.r c.args.s _ c.shared_of-a.ensures p.1.1.0, own-column p.0 c.args.s c.args.t _ c.shared_of-over.ensures p.1.1.0)

pub reached_by-far-requires-clause-column_or : goal.reached_by-far-requires-clause-column_or
reached_by-far-requires-clause-column_or c =
    let p = c.requires.1 in
    (other-column p.0 c.args.r c.args.t _ c.shared_of-b.ensures p.1.1.1, other-column p.0 c.args.s c.args.t _ c.shared_of-over.ensures p.1.1.1)

pub keep_passing-requires-clause-passes_at : goal.keep_passing-requires-clause-passes_at
keep_passing-requires-clause-passes_at c =
    let p = c.requires.1 in
    ((own-column p.0 c.args.r c.args.s _ c.shared_of-a.ensures p.1.0, own-column p.0 c.args.r c.args.t _ c.shared_of-b.ensures p.1.0), (c.reached_by-near.ensures.long, c.reached_by-far.ensures.long))

pub returns : goal.returns
returns c =
    let a = c.args in (
      narrowing-by _ a.r _ (Between _ a.r a.s a.t a.words.now)
          (between-passes c.requires.1.0 a.factor a.words.now a.r a.s a.t c.shared_of-a.result c.shared_of-b.result c.shared_of-over.result c.shared_of-a.ensures c.shared_of-b.ensures c.shared_of-over.ensures c.if-over.false c.reached_by-near.result c.reached_by-far.result c.reached_by-near.ensures c.reached_by-far.ensures)
          c.keep_passing.ensures.0,
      c.keep_passing.ensures.1,
    )
