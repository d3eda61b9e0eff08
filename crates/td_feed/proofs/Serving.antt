-- What comes of what is asked for: nothing, or what a call before it came to.
use Rattle.std.proofs.Common.{◌≡◌, ℕ, Bool, false, List, [], refl, sym, subst}
use Rattle.std.specs.Prelude.{Option, None, Result, Ok, Err, OnOk, IfErr}
use Rattle.std.proofs.lemmas.Option.{IfSome_then}
use Rattle.td_calls.specs.Answers.{Answers}
use Rattle.td_disk.specs.Disk.{DiskView}
use Rattle.td_pool.specs.declared.error.PoolError.{PoolError}
use Rattle.td_keeper.specs.Keeping.{Keeping}
use Rattle.td_console.specs.declared.faults.Fault.{Fault}
use Rattle.td_console.specs.declared.faults.Fault.TheVariants.{Keeper}
use Rattle.td_store.specs.declared.standing.error.KeeperError.TheVariants.{Device}
use Rattle.td_orders.specs.Scripts.{Script}
use Rattle.td_feed.specs.declared.under_way.Pace.{Pace}
use Rattle.td_feed.specs.Caused.{IsOfStream}
use Rattle.td_feed.specs.Copied.{Copied}
use Rattle.td_feed.specs.Held.{seen_at, then_seen}
use Rattle.td_feed.specs.Said.{IsOfReplies, IsAllOut}
use Rattle.td_feed.specs.Served.{Serves}
use Rattle.td_feed.specs.Stepping.{KeepsPace}
use Rattle.td_feed.proofs.Causes.{ended_for}
use Rattle.td_feed.proofs.Held.{base_itself, keeps_same}
use Rattle.td_feed.proofs.Lines.{EndedAs}
use Rattle.td_feed.proofs.SeenAsked.{seen_ended, tells_nothing}
use Rattle.td_feed.proofs.Sessions.{in_some_is, disk_same, disk_ended, none_fed, fed_ended}

-- what holds of a feed that ended well
ended_well : (P : Type 0) (obeyed r : Result (Unit {0}) Fault) (worked : Result (Unit {0}) PoolError) → OnOk r ((obeyed ≡ Ok tt) × (worked ≡ Ok tt)) → OnOk obeyed P → OnOk r P
ended_well P obeyed (Ok done) worked ok holds = subst (λ (q : Result (Unit {0}) Fault). OnOk q P) ok.0 holds
ended_well P obeyed (Err f) worked ok holds = tt

-- a refusal
abbrev pub refusal : Fault → Result (Unit {0}) Fault
refusal f = Err f

module _ {D W H E : Type 0} {view : D → DiskView} {answers : Answers} {marks : Bool} {contents : W → Option (List ℕ)} {has : W → ℕ → Type 0}
    {new_view : E → DiskView} {copies : H → Option (List (Copied E))} {seen_by : H → Option ℕ} {alone : Bool} {pace : Pace} {overlong : Bool} {script : Option Script} where
  -- nothing was done
  pub serves_nothing : {k : Keeping D} {w : W} {h : H} (f : Fault) → k.broken ≡ false → (refusal f ≡ Err (Keeper Device) → ⊥) → IsOfReplies f [] → ((s : Script) → IsOfStream overlong s has f)
      → Serves view answers marks contents has new_view copies seen_by alone pace overlong script (Err f) k k w w h h
  serves_nothing {k = k} {h = h} f whole device reply cause = record {
    disk = disk_same (refusal f) refl device;
    fed = in_some_is script (λ s is. none_fed f reply whole);
    held = in_some_is script (λ s is. keeps_same (then_seen (seen_at pace k.standing.epoch) s.orders) (base_itself k));
    seen = in_some_is script (λ s is. tells_nothing f (seen_at pace k.standing.epoch) (seen_by h) s.orders);
    fault = in_some_is script (λ s is. cause s);
    all_out = λ is. tt;
    in_time = λ is none. tt;
  }

  -- how it ended, where what hindered a task may stand in place of what did not pass
  pub serves_ended : {old new : Keeping D} {u v : W} {h g : H} (obeyed r : Result (Unit {0}) Fault) (worked : Result (Unit {0}) PoolError) → OnOk r ((obeyed ≡ Ok tt) × (worked ≡ Ok tt)) → IfErr r (EndedAs obeyed worked)
      → Serves view answers marks contents has new_view copies seen_by alone pace overlong script obeyed old new u v h g
      → Serves view answers marks contents has new_view copies seen_by alone pace overlong script r old new u v h g
  serves_ended {new = new} obeyed r worked ok err is = record {
    disk = disk_ended obeyed r worked ok err is.disk;
    fed = IfSome_then script is.fed (λ s fed. fed_ended obeyed r worked ok err fed);
    held = is.held;
    seen = IfSome_then script is.seen (λ s seen. seen_ended obeyed r worked ok seen);
    fault = IfSome_then script is.fault (λ s fault. ended_for overlong s has obeyed r worked err fault);
    all_out = λ by. ended_well (IsAllOut new) obeyed r worked ok (is.all_out by);
    in_time = λ by none. ended_well (KeepsPace pace None new) obeyed r worked ok (is.in_time by none);
  }

  -- of what is the same
  pub serves_same : {old new new' : Keeping D} {u v v' : W} {h g g' : H} {r r' : Result (Unit {0}) Fault} → r' ≡ r → new' ≡ new → v' ≡ v → g' ≡ g
      → Serves view answers marks contents has new_view copies seen_by alone pace overlong script r old new u v h g
      → Serves view answers marks contents has new_view copies seen_by alone pace overlong script r' old new' u v' h g'
  serves_same {old = old} {new = new} {new' = new'} {u = u} {v = v} {v' = v'} {h = h} {g = g} {g' = g'} {r = r} {r' = r'} answer keeper writer host is =
      subst (λ (q : Result (Unit {0}) Fault). Serves view answers marks contents has new_view copies seen_by alone pace overlong script q old new' u v' h g') (sym answer)
      (subst (λ (k : Keeping D). Serves view answers marks contents has new_view copies seen_by alone pace overlong script r old k u v' h g') (sym keeper)
      (subst (λ (w : W). Serves view answers marks contents has new_view copies seen_by alone pace overlong script r old new u w h g') (sym writer)
      (subst (λ (o : H). Serves view answers marks contents has new_view copies seen_by alone pace overlong script r old new u v h o) (sym host) is)))

  pub serves_given : {old new : Keeping D} {u u' v : W} {h g : H} {r : Result (Unit {0}) Fault} → u ≡ u'
      → Serves view answers marks contents has new_view copies seen_by alone pace overlong script r old new u v h g
      → Serves view answers marks contents has new_view copies seen_by alone pace overlong script r old new u' v h g
  serves_given {old = old} {new = new} {v = v} {h = h} {g = g} {r = r} same is = subst (λ (w : W). Serves view answers marks contents has new_view copies seen_by alone pace overlong script r old new w v h g) same is

-- by a keeper that is the same as another
pub serves_from : {D W H E : Type 0} {view : D → DiskView} {answers : Answers} {marks : Bool} {contents : W → Option (List ℕ)} {has : W → ℕ → Type 0} {new_view : E → DiskView} {copies : H → Option (List (Copied E))} {seen_by : H → Option ℕ}
    {alone : Bool} {pace : Pace} {overlong : Bool} {old old' new : Keeping D} {u v : W} {h g : H} {r : Result (Unit {0}) Fault} (script : Keeping D → Option Script) → old ≡ old'
    → Serves view answers marks contents has new_view copies seen_by alone pace overlong (script old) r old new u v h g
    → Serves view answers marks contents has new_view copies seen_by alone pace overlong (script old') r old' new u v h g
serves_from {view = view} {answers = answers} {marks = marks} {contents = contents} {has = has} {new_view = new_view} {copies = copies} {seen_by = seen_by} {alone = alone} {pace = pace} {overlong = overlong} {new = new} {u = u} {v = v} {h = h} {g = g} {r = r} script same is =
    subst (λ (k : Keeping _). Serves view answers marks contents has new_view copies seen_by alone pace overlong (script k) r k new u v h g) same is
