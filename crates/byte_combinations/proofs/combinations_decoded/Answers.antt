-- From what `enumerate`, `store` and `pack_enumeration` ensure, and that there is room for what was found.
use Rattle.std.proofs.Common.{◌≡◌, ◌*◌, length, sym, ap₂, ◌∙◌, arith, rules, length-take-le}
use Rattle.model.specs.Edges.{max_member_list}
use Rattle.enumeration.specs.Found.{listed_in}
use Rattle.encoding.specs.Call.{listing}
use Rattle.byte_combinations.proofs.Written.{numbers_fit, writes-listing}
use Rattle.byte_combinations.proofs.combinations_decoded.Goals as goal

pub slice_bounds-found-end : goal.slice_bounds-found-end
slice_bounds-found-end c =
    let long : length c.enumerate-a.new.list ≡ max_member_list = search rules in
    rw (c.listed.ensures, c.wide.ensures.0) (omega (arith, numbers_fit _ _ c.args.combinations.now _ _ c.enumerate-a.ensures))

pub slice_bounds-store-end : goal.slice_bounds-store-end
slice_bounds-store-end c =
    let long : length c.enumerate-a.new.list ≡ max_member_list = search rules in
    rw (c.listed.ensures, c.wide.ensures.0) (sym (length-take-le _ _ (omega (arith, numbers_fit _ _ c.args.combinations.now _ _ c.enumerate-a.ensures))))

pub store-requires : goal.store-requires
store-requires c =
    let long : length c.enumerate-a.new.list ≡ max_member_list = search rules in
    let fit = numbers_fit _ _ c.args.combinations.now _ _ c.enumerate-a.ensures in
    rw (c.listed.ensures, c.wide.ensures.0, length-take-le (listed_in c.enumerate-a.result * c.args.m) c.enumerate-a.new.list (omega (arith, fit))) fit.0

pub returns : goal.returns
returns c =
    let long : length c.enumerate-a.new.list ≡ max_member_list = search rules in
    let fit = numbers_fit _ _ c.args.combinations.now _ _ c.enumerate-a.ensures in
    ap₂ listing c.pack_enumeration.ensures
    (c.store.ensures ∙ rw (c.listed.ensures, c.wide.ensures.0, length-take-le (listed_in c.enumerate-a.result * c.args.m) c.enumerate-a.new.list (omega (arith, fit))))
    ∙ writes-listing _ _ c.args.combinations.now _ _ c.enumerate-a.ensures long
