use Rattle.std.proofs.Common.{◌≡◌, ap, ◌∙◌, sym, length, arith}
use Rattle.std.specs.Prelude.{slice_get, slice_range, Some, None}
use Rattle.std.specs.Option.{option_map}
use Rattle.td_task.specs.Cuts.{start_of}
use Rattle.td_task.proofs.CutLists.{get_of_cut, starts_before, ends_before_all}
use Rattle.td_task.proofs.keyed.Lists.get.Goals as goal

pub returns-in-None : goal.returns-in-None
returns-in-None g c =
    let all = c.self.inside.all.items in
    let ends = c.self.inside.ends.items in
    let none : slice_get ends c.args.index ≡ None =
    sym (c.end_of.ensures ∙ ap (λ l. slice_get l c.args.index) c.as_slice-ends.ensures.value) ∙ c.in-None.is in
    sym (ap (λ v. slice_get v.lists c.args.index) (sym c.self.view_is) ∙ get_of_cut 0 ends all c.args.index
    ∙ ap (option_map (λ end. slice_range all (start_of 0 c.args.index ends) end)) none)

pub part-requires-clause-begins : goal.part-requires-clause-begins
part-requires-clause-begins g c =
    let some : slice_get c.self.inside.ends.items c.args.index ≡ Some c.in-Some.end =
    sym (c.end_of.ensures ∙ ap (λ l. slice_get l c.args.index) c.as_slice-ends.ensures.value) ∙ c.in-Some.is in
    let k = starts_before 0 (length c.self.inside.all.items) c.args.index c.in-Some.end c.self.inside.ends.items c.self.invariant some in
    let e : c.start_of.result ≡ start_of 0 c.args.index c.self.inside.ends.items = c.start_of.ensures ∙ ap (start_of 0 c.args.index) c.as_slice-ends.ensures.value in
    omega arith

pub part-requires-clause-ends : goal.part-requires-clause-ends
part-requires-clause-ends g c =
    let some : slice_get c.self.inside.ends.items c.args.index ≡ Some c.in-Some.end =
    sym (c.end_of.ensures ∙ ap (λ l. slice_get l c.args.index) c.as_slice-ends.ensures.value) ∙ c.in-Some.is in
    let k = ends_before_all 0 (length c.self.inside.all.items) c.args.index c.in-Some.end c.self.inside.ends.items c.self.invariant some in
    let e : length c.as_slice.result.now ≡ length c.self.inside.all.items = ap length c.as_slice.ensures.value in
    omega arith

pub returns-in-Some : goal.returns-in-Some
returns-in-Some g c =
    let all = c.self.inside.all.items in
    let ends = c.self.inside.ends.items in
    let some : slice_get ends c.args.index ≡ Some c.in-Some.end =
    sym (c.end_of.ensures ∙ ap (λ l. slice_get l c.args.index) c.as_slice-ends.ensures.value) ∙ c.in-Some.is in
    let start : c.start_of.result ≡ start_of 0 c.args.index ends = c.start_of.ensures ∙ ap (start_of 0 c.args.index) c.as_slice-ends.ensures.value in
    let made : c.part.result.now ≡ slice_range all (start_of 0 c.args.index ends) c.in-Some.end =
    c.part.ensures ∙ ap (λ l. slice_range l c.start_of.result c.in-Some.end) c.as_slice.ensures.value ∙ ap (λ s. slice_range all s c.in-Some.end) start in
    ap Some made
    ∙ sym (ap (λ v. slice_get v.lists c.args.index) (sym c.self.view_is) ∙ get_of_cut 0 ends all c.args.index
    ∙ ap (option_map (λ end. slice_range all (start_of 0 c.args.index ends) end)) some)
