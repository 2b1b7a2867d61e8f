-- The part of the members that is handed on is the pair's combination, and the place is its member's.
use Rattle.std.proofs.Common.{◌≡◌, ℕ, ◌%◌, ap₂}
use Rattle.spreading.proofs.Kept.{member_below}
use Rattle.lean.proofs.Leaner.{pair-asks}
use Rattle.engine.proofs.Parts.{part-is}
use Rattle.engine.proofs.visit.steps_now.Goals as goal

pub steps_once_hard-requires : goal.steps_once_hard-requires
steps_once_hard-requires c =
    let P = c.requires.1 in
    let E = pair-asks P.sound c.args.p P.pair in
    let part = part-is P.sound P.pair c.wide.result c.wide-each.result c.wide.ensures.0 c.wide-each.ensures.0 in
    let place : c.wide-2.result % c.wide-each.result ≡ c.args.p % c.args.m = ap₂ (λ (q n : ℕ). q % n) c.wide-2.ensures.0 c.wide-each.ensures.0 in
    (c.requires.0, (P.sound.laid, rw (part, place) ((E.members.few, λ j h. member_below E.laid E.members j h), E.inside)))
