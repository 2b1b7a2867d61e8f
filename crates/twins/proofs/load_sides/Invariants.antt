-- `load_sides`: the places passed have the near or the far numbers.
use Rattle.std.proofs.Common.{◌≡◌, ℕ, ◌+◌, ◌<◌, cond, get_or}
use Rattle.model.specs.LiveWords.{is_set}
use Rattle.twins.proofs.load_sides.Given as goal

abbrev pub invariant-loop-j : goal.invariant-loop-j
invariant-loop-j l = (i : ℕ) → i < l.j → i < l.m → get_or l.tuple-items i 0 ≡ get_or l.numbers (cond (is_set l.places i) l.far l.near + i) 0
