-- What answers send and leave, all together.
use Rattle.std.proofs.Common.{◌≡◌, ℕ, List, [], ◌∷◌, ◌++◌, map, refl, ap, sym, ◌∙◌}
use Rattle.std.specs.Prelude.{Option}
use Rattle.std.specs.List.{flat_map}
use Rattle.td_stamp.specs.declared.values.Rec.{Rec}
use Rattle.td_stamp.specs.declared.values.State.{State}
use Rattle.td_stamp.specs.Groups.{arrival_of}
use Rattle.td_plan.specs.declared.vertex.Kind.{Kind}
use Rattle.td_plan.specs.declared.vertex.Kind.TheVariants.{Input, Map, Distinct, Group, Fold, Enter, Feedback, Leave, Output}
use Rattle.td_calls.specs.Answers.{Answers}
use Rattle.td_calls.specs.Callbacks.{Kept, on_arrival, on_notification}
use Rattle.td_machine.specs.State.{KeyItems, Content}
use Rattle.td_machine.specs.State.Content.{messages, notification}
use Rattle.td_machine.specs.Steps.{notified_sends, leaves}
use Rattle.td_task.specs.Answered.{sent_of, states_of, left_for}

together : {X Y : Type 0} (f : X → List Y) (xs : List X) → flat_map (λ sent. sent) (map f xs) ≡ flat_map f xs
together f [] = refl
together f (x ∷ xs) = ap (λ l. f x ++ l) (together f xs)

-- a map
pub map_sends : (answers : Answers) (kind : Kind) (content : Content) (code port : ℕ) (recs : List Rec) (kept : Kept) → kind ≡ Map code → content ≡ messages port recs →
    flat_map (λ sent. sent) (sent_of answers kind content) ≡ flat_map (λ r. (on_arrival answers kind kept (arrival_of port r)).sent) recs
map_sends answers kind content code port recs kept e f =
    ap (λ k. flat_map (λ sent. sent) (sent_of answers k content)) e ∙ ap (λ x. flat_map (λ sent. sent) (sent_of answers (Map code) x)) f
    ∙ together (answers.emit code port) recs ∙ sym (ap (λ k. flat_map (λ r. (on_arrival answers k kept (arrival_of port r)).sent) recs) e)

-- a notification, which asks a group and a fold alone
silent : {X Y : Type 0} (f : X → List Y) (xs : List X) → ((x : X) → f x ≡ []) → [] ≡ flat_map f xs
silent f [] h = refl
silent f (x ∷ xs) h = silent f xs h ∙ sym (ap (λ l. l ++ flat_map f xs) (h x))

pub sends : (answers : Answers) (kind : Kind) (items : List KeyItems) → flat_map (λ sent. sent) (sent_of answers kind (notification items)) ≡ notified_sends answers kind items
sends answers Input items = silent _ items (λ g. refl)
sends answers (Map code) items = silent _ items (λ g. refl)
sends answers Distinct items = silent _ items (λ g. refl)
sends answers (Group code) items = together (λ g. (on_notification answers (Group code) g.key g.state g.items).1) items
sends answers (Fold code) items = together (λ g. (on_notification answers (Fold code) g.key g.state g.items).1) items
sends answers Enter items = silent _ items (λ g. refl)
sends answers Feedback items = silent _ items (λ g. refl)
sends answers Leave items = silent _ items (λ g. refl)
sends answers Output items = silent _ items (λ g. refl)

-- the states that are left
none_left : (epoch vertex : ℕ) (items : List KeyItems) → [] ≡ left_for epoch vertex items []
none_left epoch vertex [] = refl
none_left epoch vertex (g ∷ items) = refl

each_left : (state : KeyItems → Option State) (epoch vertex : ℕ) (items : List KeyItems) →
    map (λ g. record { epoch = epoch; vertex = vertex; key = g.key; state = state g }) items ≡ left_for epoch vertex items (map state items)
each_left state epoch vertex [] = refl
each_left state epoch vertex (g ∷ items) = ap (λ l. record { epoch = epoch; vertex = vertex; key = g.key; state = state g } ∷ l) (each_left state epoch vertex items)

pub left : (answers : Answers) (kind : Kind) (epoch vertex : ℕ) (items : List KeyItems) → leaves answers kind epoch vertex items ≡ left_for epoch vertex items (states_of answers kind (notification items))
left answers Input epoch vertex items = none_left epoch vertex items
left answers (Map code) epoch vertex items = none_left epoch vertex items
left answers Distinct epoch vertex items = none_left epoch vertex items
left answers (Group code) epoch vertex items = none_left epoch vertex items
left answers (Fold code) epoch vertex items = each_left (λ g. (on_notification answers (Fold code) g.key g.state g.items).0) epoch vertex items
left answers Enter epoch vertex items = none_left epoch vertex items
left answers Feedback epoch vertex items = none_left epoch vertex items
left answers Leave epoch vertex items = none_left epoch vertex items
left answers Output epoch vertex items = none_left epoch vertex items
