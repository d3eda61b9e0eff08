-- What vertices do to times (Naiad, section 2.1): the one definition, for paths, for the batch meaning and for an engine.
use Rattle.std.specs.Prelude.{Option, Some, None}
use Rattle.td_stamp.specs.Time.{Timestamp, enter, leave, again}
use Rattle.td_plan.specs.declared.vertex.Kind.{Kind}
use Rattle.td_plan.specs.declared.vertex.Kind.TheVariants.{Enter, Feedback, Leave}

-- the time at which a vertex of this kind sends what it was given at this time
abbrev pub sent_at : Kind → Timestamp → Timestamp
sent_at Enter t = enter t
sent_at Leave t = leave t
sent_at Feedback t = again t
sent_at _ t = t

-- the same, where there is a vertex at all
abbrev pub sent_by : Option Kind → Timestamp → Timestamp
sent_by None t = t
sent_by (Some kind) t = sent_at kind t
