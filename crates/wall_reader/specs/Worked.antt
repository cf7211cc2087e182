-- Requests worked out by hand. Assumes nothing: these are definitions.
use Rattle.std.specs.Prelude.{◌≡◌, ℕ, false, List, [], ◌∷◌, Some, None, Ok, Err, codes, Option}
use Rattle.text.specs.Text.{Bytes}
use Rattle.wall_reader.specs.declared.asked.Filter.{Filter}
use Rattle.wall_reader.specs.declared.asked.Hours.{Hours}
use Rattle.wall_reader.specs.declared.words.Complaint.{Complaint}
use Rattle.wall_reader.specs.declared.words.Complaint.TheVariants.{NoValue, NoHours, SecondOption, SecondForm}
use Rattle.wall_reader.specs.declared.words.Form.{Form}
use Rattle.wall_reader.specs.declared.words.Form.TheVariants.{Rows, Csv}
use Rattle.wall_reader.specs.Requests.{asked_by}

-- the words ask for just this
abbrev pub Asks : List Bytes → (file : Option ℕ) → Filter → Form → Type 0
Asks ws file filter form = asked_by ws ≡ Ok (record { file = file; filter = filter; form = form; help = false })

-- this is wrong with the word of this number
abbrev pub Refuses : List Bytes → ℕ → Complaint → Type 0
Refuses ws at why = asked_by ws ≡ Err (record { word = at; complaint = why })

abbrev pub between : (a b : ℕ) → Option Hours
between a b = Some (record { from = a; to = b })

pub record WorkedRequests : Type 0 where
  pub nothing : Asks [] None (record { hour = None; hours = None; place = None }) Rows
  pub hour : Asks (codes "--hour" ∷ codes "3" ∷ codes "--csv" ∷ codes "wall" ∷ []) (Some 3) (record { hour = Some 3; hours = None; place = None }) Csv
  pub hours : Asks (codes "wall" ∷ codes "--place" ∷ codes "7" ∷ codes "--hours" ∷ codes "3..12" ∷ []) (Some 0) (record { hour = None; hours = between 3 12; place = Some 7 }) Rows
  pub no_value : Refuses (codes "wall" ∷ codes "--hour" ∷ []) 1 NoValue
  pub no_hours : Refuses (codes "--hours" ∷ codes "9..3" ∷ []) 1 NoHours
  pub twice : Refuses (codes "--place" ∷ codes "1" ∷ codes "--place" ∷ codes "2" ∷ []) 2 SecondOption
  pub two_forms : Refuses (codes "--csv" ∷ codes "--chart" ∷ []) 1 SecondForm
