-- `gather_from` goes from one fresh tuple of relation r to the next: what agrees with those passed is gathered.
use Rattle.std.proofs.Common.{◌≡◌, true, ℕ, ◌+◌, ◌<◌, length}
use Rattle.model.specs.Network.{size, first_id}
use Rattle.model.specs.LiveWords.{is_live}
use Rattle.live.proofs.Ahead.{Ahead}
use Rattle.layout.specs.Setting.{network_in}
use Rattle.spreading.proofs.Relations.{Gathered}
use Rattle.spreading.proofs.fresh.gather_from.Given as goal

abbrev pub invariant-loop-g : goal.invariant-loop-g
invariant-loop-g l =
    let N = network_in (record { variables = l.variables; values = l.values; starts = l.starts }) in
    record {
      long : length l.sum ≡ 64;
      ahead : Ahead l.fresh l.first l.end l.g-iterator.words.now l.g-iterator.at l.g-iterator.end;
      keeps : (z : ℕ) → z < size N l.s → is_live l.initial.sum (first_id N l.s + z) ≡ true → is_live l.sum (first_id N l.s + z) ≡ true;
      gathered : Gathered N l.r l.s l.fresh l.words l.sum l.g-iterator.at;
    }
