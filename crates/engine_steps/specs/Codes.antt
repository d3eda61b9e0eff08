-- Which closures there are, by code.
use Rattle.std.specs.Prelude.{◌==◌, ◌&&◌, ◌||◌}
use Rattle.td_calls.specs.Stored.{Codes}
use Rattle.engine_steps.specs.declared.catalogue.Catalogue.{Catalogue}

abbrev pub codes : Catalogue → Codes
codes c = record {
  map = λ code. c.is_there && (code == 1 || code == 2 || code == 9);
  group = λ code. c.is_there && (code == 20 || code == 21 || code == 24);
  fold = λ code. c.is_there && (code == 40 || code == 41);
}
