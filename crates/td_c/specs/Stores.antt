-- The closures of the catalogue.
use Rattle.td_calls.specs.Stored.{Stored, stored_in}
use Rattle.td_catalogue.specs.Catalogue.{catalogue}
use Rattle.td_catalogue.specs.Shelves.{codes}

-- THE CATALOGUE
abbrev pub stored_catalogue : Stored
stored_catalogue = stored_in catalogue codes
