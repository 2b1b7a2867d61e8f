-- The dead tuples before `g` have their numbers, and `at` is g's place.
use Rattle.std.proofs.Common.{◌≡◌, ◌+◌, ◌-◌, ◌*◌}
use Rattle.engine.specs.Blank.{Blank}
use Rattle.engine.proofs.blank.blank_dead.Given as goal

abbrev pub invariant-loop-g : goal.invariant-loop-g
invariant-loop-g l = record {
  blanked : Blank l.m l.start l.first (l.g - l.first) l.words l.initial.numbers l.numbers;
  place : l.at ≡ l.start + (l.g - l.first) * l.m;
}
