-- The part of the members that is handed on is the pair's combination, and the place is its member's.
use Rattle.std.proofs.Common.{◌≡◌, ℕ, ◌%◌, ap₂}
use Rattle.lean.proofs.Leaner.{pair-asks}
use Rattle.engine.proofs.Parts.{part-is}
use Rattle.engine.proofs.visit.lean_at.Goals as goal

pub lean_once_hard-requires : goal.lean_once_hard-requires
lean_once_hard-requires c =
    let P = c.requires.1 in
    let part = part-is P.sound P.pair c.wide.result c.wide-each.result c.wide.ensures.0 c.wide-each.ensures.0 in
    let place : c.wide-2.result % c.wide-each.result ≡ c.args.p % c.args.m = ap₂ (λ (q n : ℕ). q % n) c.wide-2.ensures.0 c.wide-each.ensures.0 in
    (c.requires.0, rw (part, place) (pair-asks P.sound c.args.p P.pair))
