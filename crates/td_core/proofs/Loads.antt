-- The inputs of a batch, one after another.
use Rattle.std.proofs.Common.{◌≡◌, ℕ, ◌+◌, ◌*◌, ◌<◌, List, [], ◌∷◌, ◌++◌, map, flat_map, length, take, drop, get_or, refl, ap, sym, ◌∙◌, subst, arith}
use Rattle.std.proofs.lemmas.List.{map-append, take_more, drop_more, append-nil}
use Rattle.std.proofs.lemmas.Grind.{flat_map-append}
use Rattle.td_stamp.specs.declared.values.Rec.{Rec}
use Rattle.td_stamp.specs.Time.{Timestamp}
use Rattle.td_machine.specs.declared.records.Message.{Message}
use Rattle.td_shard.specs.declared.shard.Shard.{Shard}
use Rattle.td_core.specs.declared.release.Load.{Load}
use Rattle.td_shard.specs.declared.outlet.Outlet.{Outlet}
use Rattle.td_core.specs.declared.hall.Routes.{Routes}
use Rattle.td_core.specs.Posted.{count_of, runs_of, HaveRoom, HaveRoomFor, IsPosted}
use Rattle.td_shard.specs.Messages.{on_each}
use Rattle.td_core.specs.Released.{HaveRoomForLoads, load_of, messages_in, runs_in, messages_of, start_of}
use Rattle.td_core.specs.Routes.{outlets_in}
use Rattle.td_core.proofs.PostSteps.{none_posted, posted_then, as_many_waits}
use Rattle.td_core.proofs.PostRuns.{room_weaker}

-- what one more element of a list adds
pub one_more : {X Y : Type 0} (f : X → List Y) (xs : List X) (i : ℕ) (d : X) → i < length xs → flat_map f (take (i + 1) xs) ≡ flat_map f (take i xs) ++ f (get_or xs i d)
one_more f xs i d within =
    ap (flat_map f) (take_more xs i d within) ∙ (flat_map-append f (take i xs) (get_or xs i d ∷ []) ∙ ap (λ l. flat_map f (take i xs) ++ l) (append-nil (f (get_or xs i d))))

-- the same after a map
pub one_more_of : {X Y Z : Type 0} (f : Y → List Z) (g : X → Y) (xs : List X) (i : ℕ) (d : X) → i < length xs
    → flat_map f (map g (take (i + 1) xs)) ≡ flat_map f (map g (take i xs)) ++ f (g (get_or xs i d))
one_more_of f g xs i d within =
    ap (λ l. flat_map f (map g l)) (take_more xs i d within) ∙ (ap (flat_map f) (map-append g (take i xs) (get_or xs i d ∷ []))
    ∙ (flat_map-append f (map g (take i xs)) (g (get_or xs i d) ∷ []) ∙ ap (λ l. flat_map f (map g (take i xs)) ++ l) (append-nil (f (g (get_or xs i d))))))

-- what is counted and what is left to be counted, of one load more
pub left_loads : (loads : List Load) (i : ℕ) (load : Load) → load ≡ get_or loads i load → i < length loads → map load_of (drop i loads) ≡ load_of load ∷ map load_of (drop (i + 1) loads)
left_loads loads i load at within = ap (map load_of) (drop_more loads i load within ∙ ap (λ x. x ∷ drop (i + 1) loads) (sym at))

-- LOADS POSTED one after another: nothing at first
pub nothing_posted : (shards : List Shard) → IsPosted [] shards shards
nothing_posted shards = record { mails = sym (none_posted (length shards) 0 shards); waiting = refl }

module _ (routes : Routes) (epoch : ℕ) (loads : List Load) (i : ℕ) (item : Load) (at : item ≡ get_or loads i item) (within : i < length loads) where
  abbrev posted_by : ℕ → List Message
  posted_by n = flat_map (messages_of routes epoch) (map load_of (take n loads))

  abbrev left_from : ℕ → List (ℕ × List Rec)
  left_from n = map load_of (drop n loads)

  module _ (outlets : List Outlet) (time : Timestamp) (recs : List Rec) (o : outlets ≡ outlets_in routes item.input) (t : time ≡ start_of epoch) (r : recs ≡ item.recs.items) (shards : List Shard)
      (room : HaveRoomForLoads routes (left_from i) shards) where
    all_room : HaveRoomForLoads routes (load_of item ∷ left_from (i + 1)) shards
    all_room = subst (λ l. HaveRoomForLoads routes l shards) (left_loads loads i item at within) room

    abbrev runs_left : ℕ → ℕ
    runs_left s = runs_in routes (length shards) (left_from (i + 1)) s

    abbrev messages_left : ℕ → ℕ
    messages_left s = messages_in routes (length shards) (left_from (i + 1)) s

    here_and_left : HaveRoomFor (λ s. runs_of (length shards) recs (length outlets) s + runs_left s) (λ s. count_of (length shards) recs s * length outlets + messages_left s) shards
    here_and_left =
        subst (λ l. HaveRoomFor (λ s. runs_of (length shards) l (length outlets) s + runs_left s) (λ s. count_of (length shards) l s * length outlets + messages_left s) shards) (sym r)
        (subst (λ l. HaveRoomFor (λ s. runs_of (length shards) item.recs.items (length l) s + runs_left s) (λ s. count_of (length shards) item.recs.items s * length l + messages_left s) shards) (sym o) all_room)

    pub room_for : HaveRoom recs (length outlets) shards
    room_for =
        room_weaker (λ s. runs_of (length shards) recs (length outlets) s + runs_left s) (λ s. count_of (length shards) recs s * length outlets + messages_left s)
        (runs_of (length shards) recs (length outlets)) (λ s. count_of (length shards) recs s * length outlets) (λ s. omega arith) (λ s. omega arith) 0 shards here_and_left

    pub posted_next : (old new : List Shard) → IsPosted (posted_by i) old shards → IsPosted (on_each outlets time recs) shards new → IsPosted (posted_by (i + 1)) old new
    posted_next old new before now =
        let here : posted_by i ++ on_each outlets time recs ≡ posted_by (i + 1) =
        (λ j. posted_by i ++ on_each (o j) (t j) (r j)) ∙ sym (one_more_of (messages_of routes epoch) load_of loads i item within ∙ ap (λ l. posted_by i ++ messages_of routes epoch (load_of l)) (sym at)) in
        subst (λ cs. IsPosted cs old new) here (posted_then (posted_by i) (on_each outlets time recs) old shards new before now)

    pub room_next : (new : List Shard) → IsPosted (on_each outlets time recs) shards new
        → ((runs many : ℕ → ℕ) → HaveRoomFor (λ s. runs_of (length shards) recs (length outlets) s + runs s) (λ s. count_of (length shards) recs s * length outlets + many s) shards → HaveRoomFor runs many new)
        → HaveRoomForLoads routes (left_from (i + 1)) new
    room_next new now left =
        subst (λ n. HaveRoomFor (runs_in routes n (left_from (i + 1))) (messages_in routes n (left_from (i + 1))) new) (sym (as_many_waits shards new now.waiting)) (left runs_left messages_left here_and_left)
