-- Rows as they are shown. Assumes nothing: these are definitions.
use Rattle.std.specs.Prelude.{◌++◌, codes, decimal}
use Rattle.rows.specs.declared.Row.{Row}
use Rattle.text.specs.Text.{Bytes}

abbrev pub csv_line : Row → Bytes
csv_line r = decimal r.hour ++ (codes "," ++ (decimal r.place ++ (codes "," ++ decimal r.sum)))
