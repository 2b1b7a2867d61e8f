-- `make` makes the change on the decoded words and counts, and on as many numbers as are needed.
-- From what `write_change` ensures, and that this leaves in the bytes what it leaves on the whole lists.
use mathlib.Core.Path.{◌≡◌, sym, ap, ◌∙◌}
use mathlib.Core.List.{List}
use Prim.Native.Nat.{ℕ, ◌*◌, ◌/◌, ◌≤◌}
use native.Mathlib.Omega.{arith}
use lib.ListN.{length, take, replicate, length-take}
use lib.Seq.{length-take-le}
use borrow.Author.Rules.{rules}
use Rattle.model.specs.Consistency.{needed}
use Rattle.model.specs.Request.{Instance}
use Rattle.wire.specs.Entries.{entries64}
use Rattle.wire.proofs.Entries.{entries64-length}
use Rattle.layout.specs.Shape.{instance_of}
use Rattle.layout.specs.Setting.{Setting, network, listed}
use Rattle.layout.proofs.Outline.{needed-outline}
use Rattle.request.specs.Plan.{Clear}
use Rattle.changes.proofs.Changed.{clear-ready}
use Rattle.encoding.proofs.Counts.{counts-length}
use Rattle.byte_calls.specs.Planned.{setting_for}
use Rattle.byte_calls.proofs.Calls.{planned-counts, made_bytes}
use Rattle.byte_calls.proofs.change.make.Statement.{statement}
use Rattle.byte_calls.proofs.change.make.Tie as tie

-- ---- What is planned

abbrev given : tie.Start → Setting
given s = let a = s.args in setting_for a.plan a.variables.now a.values.now a.m a.members.now

abbrev instance : tie.Start → Instance
instance s = let a = s.args in instance_of s.requires.shape a.variables.now a.values.now a.m a.members.now

abbrev clear : (s : tie.Start) → Clear s.args.plan (instance s) (length s.args.marks.now / 8) (length s.args.supports.now / 2) s.requires.change
clear s = s.requires.planned.clear s.requires.none

-- ---- How many numbers are needed

-- as many as any call needs
abbrev blank : List ℕ
blank = replicate 32768 0

module _ (c : tie.After-needed-number_count) where
  abbrev start : tie.Start
  start = c.before.before.before.before.before.before.before.before.before.before.before

  abbrev n : ℕ
  n = c.needed-number_count.result

  numbers-needed : n ≡ needed (network (given start)) (listed (given start))
  numbers-needed = c.needed-number_count.ensures ∙ needed-outline (given start).lists (listed (given start))

  numbers-few : (n ≤ 32768) × (2 * n ≤ length start.args.supports.now)
  numbers-few = (omega (arith, numbers-needed, (clear start).sufficient.short), omega (arith, numbers-needed, (clear start).sufficient.room))

  numbers-long : length (take n blank) ≡ n
  numbers-long = length-take-le n blank (omega (arith, numbers-few.0))

-- ---- The needs

write-change-requires : tie.Need-write_change-requires
write-change-requires c κs =
    let k = c.before.before.before.before.before.before in
    let s = start k in
    let a = s.args in
    let decoded = s.requires.decoded in
    let tally = ap length decoded.all in
    record {
      ready = clear-ready a.plan (instance s) (length a.marks.now / 8) (length a.supports.now / 2) s.requires.change (clear s) a.words.now (take (n k) blank) a.counts.now
          decoded.covered.enough (omega (arith, numbers-needed k, numbers-long k))
          (tally ∙ planned-counts (instance s) s.requires.change a.sheets.now a.marks.now a.supports.now a.plan s.requires.planned s.requires.none);
      sheets-room = omega (arith, tally, counts-length a.sheets.now);
      marks-room = omega (arith, ap length decoded.first, length-take (length a.words.now) (entries64 a.marks.now), entries64-length a.marks.now);
      supports-room = omega (arith, (numbers-few k).1, numbers-long k);
    }

returns : tie.Need-returns
returns c =
    let made = c.before.before.before.before.before.before.before.before.before.before.before in
    let k = made.before.before.before.before.before.before.before in
    let s = start k in
    let a = s.args in
    let decoded = s.requires.decoded in
    let known = k.before.before.before in
    λ S change planned.
    made.write_change.ensures
    ∙ made_bytes (instance_of S a.variables.now a.values.now a.m a.members.now) change a.sheets.now a.marks.now a.supports.now a.plan planned s.requires.none s.requires.whole
    (λ i. (known.before.slice_known-4-1.given i).fits) (λ i. (known.slice_known-5-1.given i).fits)
    (length a.words.now) a.words.now (take (n k) blank) decoded.first
    decoded.covered.enough (numbers-long k ∙ numbers-needed k)

pub make_spec : {M : Type 1} → statement M
make_spec =
    tie.close
    (tie.spec
    (λ c κs. let s = c.before.before.before.before.before.before.before.before.before.before in ((clear s).sufficient.sound.laid.framed, (clear s).sufficient.sound.paired))
    (λ c. (numbers-few c.before).0)
    (λ c. sym (numbers-long c.before.before))
    write-change-requires
    (λ c. search rules)
    (λ c. search rules)
    (λ c. search rules)
    (λ c. search rules)
    (λ c. search rules)
    returns)
