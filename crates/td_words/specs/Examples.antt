-- Words that are written out, and what they ask for: what the definitions of specs/Command.antt come to.
use Rattle.std.specs.Prelude.{◌≡◌, ℕ, List, [], ◌∷◌, Option, Some, None, option_map, Result, IfOk, IfErr, Bool, true, false, codes}
use Rattle.clap.specs.Words.{Text}
use Rattle.td_words.specs.declared.job.Job.{Job}
use Rattle.td_words.specs.declared.job.Job.TheVariants.{Batch, Run, Format, Feed, Copy, Stream}
use Rattle.td_words.specs.declared.job.WordsError.{WordsError}
use Rattle.td_words.specs.declared.job.WordsError.TheVariants.{Memory}

abbrev pub batch_words : List Text
batch_words = codes "td" ∷ codes "batch" ∷ []

abbrev pub written_words : List Text
written_words = codes "td" ∷ codes "batch" ∷ codes "--closures" ∷ codes "c" ∷ []

abbrev pub run_words : List Text
run_words = codes "td" ∷ codes "run" ∷ []

abbrev pub format_words : List Text
format_words = codes "td" ∷ codes "format" ∷ codes "d" ∷ codes "p" ∷ codes "4" ∷ codes "2" ∷ codes "3" ∷ []

abbrev pub feed_words : List Text
feed_words = codes "td" ∷ codes "feed" ∷ codes "d" ∷ codes "p" ∷ []

abbrev pub until_words : List Text
until_words = codes "td" ∷ codes "copy" ∷ codes "d" ∷ codes "p" ∷ codes "e" ∷ codes "4" ∷ codes "2" ∷ codes "3" ∷ codes "--until" ∷ codes "4" ∷ []

abbrev pub stream_words : List Text
stream_words = codes "td" ∷ codes "stream" ∷ codes "d" ∷ codes "p" ∷ []

abbrev pub cutting_words : List Text
cutting_words = codes "td" ∷ codes "stream" ∷ codes "d" ∷ codes "p" ∷ codes "--cut-every" ∷ codes "4" ∷ codes "--most" ∷ codes "5" ∷ []

abbrev pub telling_words : List Text
telling_words = codes "td" ∷ codes "stream" ∷ codes "d" ∷ codes "p" ∷ codes "--progress" ∷ codes "--marks" ∷ codes "--refuse" ∷ codes "--at" ∷ codes "--hold" ∷ codes "--room" ∷ codes "--ask" ∷ codes "--status" ∷ codes "s" ∷ codes "--copies" ∷ codes "f" ∷ []

-- a batch with these values, a formatting, a feed, a copy, and a feed as its lines come
abbrev pub IsBatch : Option Text → Job → Type 0
IsBatch c (Batch closures) = option_map (λ f. f.now) closures ≡ c
IsBatch c _ = ⊥

abbrev pub IsFormat : Text → Text → ℕ → ℕ → ℕ → Option Text → Job → Type 0
IsFormat a b x y z c (Format disk plan m n k closures) = (disk.now ≡ a) × (plan.now ≡ b) × (m ≡ x) × (n ≡ y) × (k ≡ z) × (option_map (λ f. f.now) closures ≡ c)
IsFormat a b x y z c _ = ⊥

abbrev pub IsFeed : Text → Text → ℕ → Job → Type 0
IsFeed a b w (Feed disk plan workers) = (disk.now ≡ a) × (plan.now ≡ b) × (workers ≡ w)
IsFeed a b w _ = ⊥

abbrev pub IsCopy : Text → Text → Text → ℕ → ℕ → ℕ → Option ℕ → Job → Type 0
IsCopy a b c x y z e (Copy disk plan new m n k until) = (disk.now ≡ a) × (plan.now ≡ b) × (new.now ≡ c) × (m ≡ x) × (n ≡ y) × (k ≡ z) × (until ≡ e)
IsCopy a b c x y z e _ = ⊥

abbrev pub IsStream : Text → Text → ℕ → Option ℕ → Option ℕ → Bool → Bool → Bool → Bool → Bool → Bool → Bool → Option Text → Option Text → Job → Type 0
IsStream a b w e r t s f p h o k u v (Stream disk plan workers cut_every most progress marks refuse at hold room ask status copies) = (disk.now ≡ a) × (plan.now ≡ b) × (workers ≡ w) × (cut_every ≡ e) × (most ≡ r) × (progress ≡ t) × (marks ≡ s) × (refuse ≡ f)
    × (at ≡ p) × (hold ≡ h) × (room ≡ o) × (ask ≡ k) × (option_map (λ file. file.now) status ≡ u) × (option_map (λ folder. folder.now) copies ≡ v)
IsStream a b w e r t s f p h o k u v _ = ⊥

-- such a job is what is asked for, and want of memory alone refuses it
abbrev pub Gives : Result Job WordsError → (Job → Type 0) → Type 0
Gives result IsSuch = IfOk result IsSuch × IfErr result (λ e. e ≡ Memory)

-- WHAT THE WORDS ASK FOR, where they are one of these
pub record Examples (given : List Text) (result : Result Job WordsError) : Type 0 where
  pub batch : given ≡ batch_words → Gives result (λ job. job ≡ Batch None)
  pub run : given ≡ run_words → Gives result (λ job. job ≡ Run 1 None)
  pub written : given ≡ written_words → Gives result (IsBatch (Some (codes "c")))
  pub format : given ≡ format_words → Gives result (IsFormat (codes "d") (codes "p") 4 2 3 None)
  pub feed : given ≡ feed_words → Gives result (IsFeed (codes "d") (codes "p") 1)
  pub until : given ≡ until_words → Gives result (IsCopy (codes "d") (codes "p") (codes "e") 4 2 3 (Some 4))
  pub stream : given ≡ stream_words → Gives result (IsStream (codes "d") (codes "p") 1 None None false false false false false false false None None)
  pub cutting : given ≡ cutting_words → Gives result (IsStream (codes "d") (codes "p") 1 (Some 4) (Some 5) false false false false false false false None None)
  pub telling : given ≡ telling_words → Gives result (IsStream (codes "d") (codes "p") 1 None None true true true true true true true (Some (codes "s")) (Some (codes "f")))
