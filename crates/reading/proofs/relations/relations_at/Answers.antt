-- From how relations are read one by one.
use Rattle.std.proofs.Common.{refl, sym, ap, ◌∙◌, List, ◌+◌, ◌*◌, ◌-◌, ◌≤◌, length, take, drop, length-set, arith}
use native.Mathlib.Nat.{mul-le-mul}
use Rattle.model.specs.declared.Relation.{Relation}
use Rattle.model.specs.Limits.{max_width, max_tuples}
use Rattle.model.specs.Reading.{read_relations}
use Rattle.layout.specs.declared.Shape.{Shape}
use Rattle.reading.specs.Parts.{map_read, append, single, unlisted, read_relation, record_of}
use Rattle.reading.proofs.Found.{positive, found_none, map-none}
use Rattle.reading.proofs.Lines.{drop-later}
use Rattle.reading.proofs.Networks.{relations-start, relations-stop, relations-more, records-more, blank-start, blank-more}
use Rattle.reading.proofs.relations.relations_at.Invariants.{standing}
use Rattle.reading.proofs.relations.relations_at.Goals as goal

pub loop-r-init : goal.loop-r-init
loop-r-init c =
    let b = c.blank-shape.ensures in
    record {
      placed = c.requires.0;
      widths = ap (λ (S : Shape). length S.widths) b;
      tuples = ap (λ (S : Shape). length S.tuples) b;
      narrow = omega arith;
      few = omega arith;
      counted = ap (λ (S : Shape). S.count) b;
      read = relations-start c.args.count max_tuples (drop c.args.at c.args.text.now) _ _;
      blank = blank-start c.args.count c.blank-shape.result b;
      variables_kept = refl;
      values_kept = refl;
    }

pub loop-r-preserved : goal.loop-r-preserved
loop-r-preserved c =
    let a = c.args in
    let l = c.loop-r in
    let f = c.relation_at-found.result in
    let e = c.relation_at-found.ensures in
    let t = a.text.now in
    let k = a.count - (l.r + 1) in
    let scopes = take (l.variable + f.width) c.relation_at-found.new.variables in
    let values = take (l.value + f.tuples * f.width) c.relation_at-found.new.values in
    let N = standing l.variables l.values l.shape l.variable l.value l.r in
    let few : f.tuples * f.width ≤ f.tuples * max_width = mul-le-mul {n₁ = f.tuples} (omega arith) e.rest.0 in
    record {
      placed = positive f.next c.if-from-eq0.false;
      widths = length-set l.shape.widths l.r f.width ∙ l.invariant.widths;
      tuples = length-set l.shape.tuples l.r f.tuples ∙ l.invariant.tuples;
      narrow = omega (arith, e.rest.0);
      few = omega (arith, few, e.rest.1);
      counted = l.invariant.counted;
      read =
          ap (λ (Rs : List Relation). map_read (append (record { relations = Rs; variables = scopes; values = values })) (read_relations k (l.room - f.tuples) (drop f.next t))) (records-more l.r l.shape.widths l.shape.tuples f.width f.tuples (omega arith) (omega arith))
          ∙ sym (relations-more k (a.count - l.r) l.room (drop l.from t) (omega arith) t N (record_of f) scopes values f.next e.read c.if-from-eq0.false)
          ∙ l.invariant.read;
      blank = blank-more l.r l.shape.widths l.shape.tuples f.width f.tuples (omega arith) (omega arith) (omega arith) l.invariant.blank;
      variables_kept = e.rest.2 ∙ drop-later l.variable (l.variable + f.width) l.variables a.variables.now (omega arith) l.invariant.variables_kept;
      values_kept = e.rest.3 ∙ drop-later l.value (l.value + f.tuples * f.width) l.values a.values.now (omega arith) l.invariant.values_kept;
    }

pub returns-then-from-eq0-clause-read : goal.returns-then-from-eq0-clause-read
returns-then-from-eq0-clause-read c =
    let a = c.args in
    let l = c.loop-r in
    let f = c.relation_at-found.result in
    let t = a.text.now in
    let N = standing l.variables l.values l.shape l.variable l.value l.r in
    let after = single (record_of f) (take (l.variable + f.width) c.relation_at-found.new.variables) (take (l.value + f.tuples * f.width) c.relation_at-found.new.values) in
    let absent = map-none (append (unlisted N.variables N.values)) t f.next after (read_relation l.room (drop l.from t)) c.relation_at-found.ensures.read c.if-from-eq0.true in
    found_none t f.next _ c.if-from-eq0.true ∙ sym (sym l.invariant.read ∙ relations-stop (a.count - (l.r + 1)) (a.count - l.r) l.room (drop l.from t) (omega arith) N absent)
