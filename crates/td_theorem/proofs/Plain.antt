-- Stints of keepers that no one watches: what holds of these holds of all.
use Rattle.std.proofs.Common.{◌≡◌, ℕ, List, [], ◌∷◌, ◌++◌, refl, ap}
use Rattle.std.specs.Prelude.{map}
use Rattle.td_stamp.specs.declared.epoch_out.EpochOut.{EpochOut}
use Rattle.td_plan.specs.Lines.{Line}
use Rattle.td_calls.specs.Answers.{Answers}
use Rattle.td_disk.specs.Disk.{DiskView, DiskState}
use Rattle.td_gate.specs.CrashSafe.{CrashSafe, Unchanged}
use Rattle.td_journal.specs.declared.payload.Submitted.{Submitted}
use Rattle.td_store.specs.standing.Tells.{Keeps}
use Rattle.td_store.specs.standing.Advanced.{HeldWhere}
use Rattle.td_keeper.specs.Keeping.{IsKeeping, IsFreshlyOpened}
use Rattle.td_keeper.specs.Driven.{handed_out, Driven}
use Rattle.td_keeper.specs.Acknowledged.{Epoch, acknowledged_by}
use Rattle.td_theorem.specs.Life.{Stint, IsStint, TellsAs, Life, acknowledged_in_life, handed_in_life}
use Rattle.td_theorem.specs.Holds.{IsMadeOf}
use Rattle.td_theorem.proofs.Watches.{unwatched, kept_unwatched, driven_of}

module _ {D : Type 0} (view : D → DiskView) (answers : Answers) (plan : List Line) where
  -- a stint in which no watch changes
  pub record IsPlainStint (s : Stint D) : Type 0 where
    pub unwritten : CrashSafe Unchanged (view s.disk).state (view s.found.device).state
    pub lawful : (view s.found.device).lawful
    pub for_plan : s.found.plan ≡ plan
    pub keeps : Keeps plan s.found.head s.found.side s.found.standing (view s.found.device).state
    pub fresh : IsFreshlyOpened s.found
    pub kept : IsKeeping s.found answers
    pub driven : Driven view answers s.commands s.replies s.found s.stood
    pub held : HeldWhere s.stood.broken answers s.stood.plan s.stood.head s.stood.side s.stood.standing (view s.stood.device).state
    pub stopped : Driven view answers s.more s.unseen s.stood s.ended
    pub crashed : (view s.ended.device).state.since (view s.stood.device).state.moment s.left

  -- and a life of such
  abbrev pub PlainLife : List ℕ → List (Stint D) → List ℕ → Type 0
  PlainLife from [] to = to ≡ from
  PlainLife from (s ∷ more) to = TellsAs plan from (view s.disk).state × IsPlainStint s × PlainLife s.left more to

-- A STINT WITHOUT ITS WATCHES
abbrev pub plain : {D : Type 0} → Stint D → Stint D
plain s = record s { found = unwatched s.found; stood = unwatched s.stood; ended = unwatched s.ended }

module _ {D : Type 0} (view : D → DiskView) (answers : Answers) (plan : List Line) where
  pub is_plain : (s : Stint D) → IsStint view answers plan s → IsPlainStint view answers plan (plain s)
  is_plain s is = record {
    unwritten = is.unwritten;
    lawful = is.lawful;
    for_plan = is.for_plan;
    keeps = is.keeps;
    fresh = record {
      whole = is.fresh.whole;
      base = is.fresh.base;
      base_states = is.fresh.base_states;
      none_waits = is.fresh.none_waits;
      collected = is.fresh.collected;
      queue = is.fresh.queue;
      unwatched = refl;
    };
    kept = kept_unwatched answers s.found is.kept;
    driven = driven_of view answers s.commands s.replies s.found s.stood is.obeyed;
    held = is.held;
    stopped = driven_of view answers s.more s.unseen s.stood s.ended is.stopped;
    crashed = is.crashed;
  }

  pub plain_life : (life : List (Stint D)) (from to : List ℕ) → Life view answers plan from life to → PlainLife view answers plan from (map plain life) to
  plain_life [] from to lived = lived
  plain_life (s ∷ life) from to lived = (lived.0, is_plain s lived.1, plain_life life s.left to lived.2)

-- they submitted, acknowledged and handed out the same
pub still_made : {D : Type 0} (life : List (Stint D)) (history : List Submitted) → IsMadeOf history (map plain life) → IsMadeOf history life
still_made [] history made = made
still_made (s ∷ life) history made = (made.0, made.1, made.2, made.3, still_made life made.1 made.4)

pub same_acknowledged : {D : Type 0} (life : List (Stint D)) → acknowledged_in_life (map plain life) ≡ acknowledged_in_life life
same_acknowledged [] = refl
same_acknowledged (s ∷ life) = ap (λ (l : List Epoch). acknowledged_by s.commands s.replies ++ l) (same_acknowledged life)

pub same_handed : {D : Type 0} (life : List (Stint D)) → handed_in_life (map plain life) ≡ handed_in_life life
same_handed [] = refl
same_handed (s ∷ life) = ap (λ (l : List EpochOut). handed_out s.replies ++ l) (same_handed life)
