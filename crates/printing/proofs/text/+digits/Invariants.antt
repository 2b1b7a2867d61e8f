-- A number has fewer digits before its last one.
use Rattle.printing.proofs.text.+digits.Given as goal

abbrev pub decreases-digits : goal.decreases-digits
decreases-digits l = l.v
