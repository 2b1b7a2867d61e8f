-- One byte stands behind the digits. From the laws of texts written one behind another.
use Rattle.std.proofs.Common.{arith}
use Rattle.printing.proofs.Appended.{appended-byte, appended_then, appended-end}
use Rattle.printing.proofs.text.field.Goals as goal

pub bounds-out-n : goal.bounds-out-n
bounds-out-n c = omega (arith, appended-end (omega arith) c.digits-n.ensures, c.digits-n.ensures.long)

pub returns : goal.returns
returns c =
    let d = c.digits-n in
    appended_then d.ensures (appended-byte d.new.out d.result _ (omega (arith, appended-end (omega arith) d.ensures, d.ensures.long)))
