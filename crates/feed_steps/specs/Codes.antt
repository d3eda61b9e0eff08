-- Which closures there are, by code.
use Rattle.std.specs.Prelude.{◌==◌, false, ◌&&◌, ◌||◌}
use Rattle.td_calls.specs.Stored.{Codes}
use Rattle.feed_steps.specs.declared.catalogue.Catalogue.{Catalogue}
use Rattle.feed_steps.specs.declared.meeting.Meeting.{Meeting}

abbrev pub codes : Catalogue → Codes
codes c = record {
  map = λ code. c.is_there && code == 1;
  group = λ code. c.is_there && code == 20;
  fold = λ code. c.is_there && (code == 40 || code == 41);
}

-- of a map that meets another
abbrev pub meeting_codes : Meeting → Codes
meeting_codes c = record {
  map = λ code. code == 1;
  group = λ code. false;
  fold = λ code. false;
}
