use Rattle.std.proofs.Common.{◌-◌, false, map, refl, ◌∙◌, subst}
use Rattle.td_progress.specs.Bag.{IsSameBag, input_stamp}
use Rattle.td_core.proofs.Opening.{inputs_fit, opened_state, opened_hall}
use Rattle.td_core.proofs.hall.Hall.open.Goals as goal

pub new-requires : goal.new-requires
new-requires g c =
    inputs_fit c.args.plan.now c.in_ok-reach.reach c.as_slice.result.now c.args.base c.args.first c.args.workers c.in_ok-reach.ensures (c.as_slice.ensures.value ∙ c.in_ok-inputs.ensures)
    (c.active_of_plan.ensures _ (c.reached.ensures.opened c.args.plan.now c.args.base c.args.first c.args.workers c.vertices.ensures.lawful c.list.ensures.ordered c.requires.first c.requires.some))

pub invariant_of-result : goal.invariant_of-result
invariant_of-result g c = opened_hall c.args.plan.now c.args.base c.args.first c.args.workers _ (record {
  plan_is = c.in_ok-table.ensures.plan ∙ c.in_ok-reach.ensures;
  stamps = subst (λ xs. IsSameBag c.in_ok-table.table.stamps (map (input_stamp c.args.first) xs)) (c.as_slice.ensures.value ∙ c.in_ok-inputs.ensures) c.in_ok-table.ensures.inputs;
  inputs = c.in_ok-inputs.ensures;
  base_is = refl;
  states = refl;
  batches = c.new-2.ensures.items;
  next = refl;
  closed = refl;
  shards = c.in_ok-shards.ensures;
  seen = c.new-3.ensures;
  versions = c.new-4.ensures;
  out = c.new-5.ensures.items;
  outputs = c.new-6.ensures;
  collected = refl;
  taken = refl;
  given = refl;
  routes = c.in_ok-routes.ensures;
}) g.L.Law.answers
    (c.reached.ensures.opened c.args.plan.now c.args.base c.args.first c.args.workers c.vertices.ensures.lawful c.list.ensures.ordered c.requires.first c.requires.some) c.requires.few c.requires.numbers

pub returns-clause-opened : goal.returns-clause-opened
returns-clause-opened g c = opened_state c.args.plan.now c.args.base c.args.first c.args.workers (record {
  table = c.in_ok-table.table;
  routes = c.in_ok-routes.routes;
  inputs = c.in_ok-inputs.inputs;
  base = c.args.first - 1;
  states = c.args.base;
  batches = c.new-2.result;
  next = c.args.first;
  closed = false;
  shards = c.in_ok-shards.shards;
  seen = c.new-3.result;
  versions = c.new-4.result;
  out = c.new-5.result;
  outputs = c.new-6.result;
  collected = c.args.first - 1;
  taken = 0;
  given = 0;
  alloc = c.args.alloc;
}) (record {
  plan_is = c.in_ok-table.ensures.plan ∙ c.in_ok-reach.ensures;
  stamps = subst (λ xs. IsSameBag c.in_ok-table.table.stamps (map (input_stamp c.args.first) xs)) (c.as_slice.ensures.value ∙ c.in_ok-inputs.ensures) c.in_ok-table.ensures.inputs;
  inputs = c.in_ok-inputs.ensures;
  base_is = refl;
  states = refl;
  batches = c.new-2.ensures.items;
  next = refl;
  closed = refl;
  shards = c.in_ok-shards.ensures;
  seen = c.new-3.ensures;
  versions = c.new-4.ensures;
  out = c.new-5.ensures.items;
  outputs = c.new-6.ensures;
  collected = refl;
  taken = refl;
  given = refl;
  routes = c.in_ok-routes.ensures;
})
