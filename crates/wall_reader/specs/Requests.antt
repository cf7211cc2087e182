-- What the words behind the program's name ask for. Assumes nothing: these are definitions.
use Rattle.std.specs.Prelude.{ℕ, ◌+◌, ◌-◌, Bool, true, false, cond, ◌||◌, List, [], ◌∷◌, drop, is_some, Some, None, Ok, Err, codes, Option, Result, ◌==◌, nat_eq, nat_lt, slice_index}
use Rattle.std.specs.Str.{bytes_eq}
use Rattle.text.specs.Text.{Bytes, before, from, decimal}
use Rattle.wall_reader.specs.declared.asked.Filter.{Filter}
use Rattle.wall_reader.specs.declared.asked.Hours.{Hours}
use Rattle.wall_reader.specs.declared.words.Request.{Request}
use Rattle.wall_reader.specs.declared.words.Complaint.{Complaint}
use Rattle.wall_reader.specs.declared.words.Complaint.TheVariants.{NoSuchOption, NoValue, NotANumber, NotHours, NoHours, SecondOption, SecondForm, SecondFile}
use Rattle.wall_reader.specs.declared.words.Draft.{Draft}
use Rattle.wall_reader.specs.declared.words.Form.{Form}
use Rattle.wall_reader.specs.declared.words.Form.TheVariants as form
use Rattle.wall_reader.specs.declared.words.Kind.{Kind}
use Rattle.wall_reader.specs.declared.words.Kind.TheVariants as kind
use Rattle.wall_reader.specs.declared.words.Misuse.{Misuse}
use Rattle.wall_reader.specs.declared.words.Valued.{Valued}
use Rattle.wall_reader.specs.declared.words.Valued.TheVariants as valued_option

-- an option, or a file where the word begins with no dash
abbrev pub kind_of : Bytes → Kind
kind_of w =
    cond (bytes_eq w (codes "--hour")) (kind.Valued valued_option.Hour)
    (cond (bytes_eq w (codes "--hours")) (kind.Valued valued_option.Hours)
    (cond (bytes_eq w (codes "--place")) (kind.Valued valued_option.Place)
    (cond (bytes_eq w (codes "--csv")) kind.Csv
    (cond (bytes_eq w (codes "--chart")) kind.Chart
    (cond (bytes_eq w (codes "--help") || bytes_eq w (codes "-h")) kind.Help
    (cond (slice_index w 0 == 45) kind.Unknown kind.File))))))

abbrev pub hours_between : Option ℕ → Option ℕ → Result Hours Complaint
hours_between None b = Err NotHours
hours_between (Some a) None = Err NotHours
hours_between (Some a) (Some b) = cond (nat_lt a b) (Ok (record { from = a; to = b })) (Err NoHours)

-- a number before the first dot, and one behind the second, which follows at once
abbrev pub hours_at : Bytes → Bytes → Result Hours Complaint
hours_at front back = cond (slice_index back 1 == 46) (hours_between (decimal front) (decimal (drop 2 back))) (Err NotHours)

abbrev pub hours_of : Bytes → Result Hours Complaint
hours_of w = hours_at (before (λ b. nat_eq b 46) w) (from (λ b. nat_eq b 46) w)

abbrev pub number_of : Option ℕ → Result ℕ Complaint
number_of None = Err NotANumber
number_of (Some n) = Ok n

abbrev pub with_hour : Filter → Result ℕ Complaint → Result Filter Complaint
with_hour f (Ok n) = Ok (record { hour = Some n; hours = f.hours; place = f.place })
with_hour f (Err e) = Err e

abbrev pub with_place : Filter → Result ℕ Complaint → Result Filter Complaint
with_place f (Ok n) = Ok (record { hour = f.hour; hours = f.hours; place = Some n })
with_place f (Err e) = Err e

abbrev pub with_hours : Filter → Result Hours Complaint → Result Filter Complaint
with_hours f (Ok r) = Ok (record { hour = f.hour; hours = Some r; place = f.place })
with_hours f (Err e) = Err e

-- the filter with the value of an option
abbrev pub valued : Valued → Filter → Bytes → Result Filter Complaint
valued valued_option.Hour f w = with_hour f (number_of (decimal w))
valued valued_option.Hours f w = with_hours f (hours_of w)
valued valued_option.Place f w = with_place f (number_of (decimal w))

-- the filter has a value of this option
abbrev pub is_given : Valued → Filter → Bool
is_given valued_option.Hour f = is_some f.hour
is_given valued_option.Hours f = is_some f.hours
is_given valued_option.Place f = is_some f.place

-- an option whose value is to follow, which is not given yet
abbrev pub option_taken : Draft → Valued → Bool → Result Draft Complaint
option_taken d o true = Err SecondOption
option_taken d o false = Ok (record { request = d.request; waits = Some o })

-- how rows are shown, where nothing of it is said yet
abbrev pub form_taken : Draft → (f said : Form) → Result Draft Complaint
form_taken d f form.Rows = Ok (record { request = record { file = d.request.file; filter = d.request.filter; form = f; help = d.request.help }; waits = d.waits })
form_taken d f form.Csv = Err SecondForm
form_taken d f form.Chart = Err SecondForm

abbrev pub file_taken : Draft → ℕ → Option ℕ → Result Draft Complaint
file_taken d at None = Ok (record { request = record { file = Some at; filter = d.request.filter; form = d.request.form; help = d.request.help }; waits = d.waits })
file_taken d at (Some other) = Err SecondFile

-- a word that is no value
abbrev pub plain_taken : Draft → ℕ → Kind → Result Draft Complaint
plain_taken d at (kind.Valued o) = option_taken d o (is_given o d.request.filter)
plain_taken d at kind.Csv = form_taken d form.Csv d.request.form
plain_taken d at kind.Chart = form_taken d form.Chart d.request.form
plain_taken d at kind.Help = Ok (record { request = record { file = d.request.file; filter = d.request.filter; form = d.request.form; help = true }; waits = d.waits })
plain_taken d at kind.Unknown = Err NoSuchOption
plain_taken d at kind.File = file_taken d at d.request.file

abbrev pub value_taken : Draft → Result Filter Complaint → Result Draft Complaint
value_taken d (Ok f) = Ok (record { request = record { file = d.request.file; filter = f; form = d.request.form; help = d.request.help }; waits = None })
value_taken d (Err e) = Err e

-- a word is the value of the option before it, or stands for itself
abbrev pub word_by : Draft → ℕ → Bytes → Option Valued → Result Draft Complaint
word_by d at w None = plain_taken d at (kind_of w)
word_by d at w (Some o) = value_taken d (valued o d.request.filter w)

abbrev pub word_taken : Draft → ℕ → Bytes → Result Draft Complaint
word_taken d at w = word_by d at w d.waits

abbrev pub nothing_asked : Draft
nothing_asked = record { request = record { file = None; filter = record { hour = None; hours = None; place = None }; form = form.Rows; help = false }; waits = None }

-- no option may be left without its value
abbrev pub closed : ℕ → Draft → Option Valued → Result Request Misuse
closed n d None = Ok d.request
closed n d (Some o) = Err (record { word = n - 1; complaint = NoValue })

abbrev pub on : ℕ → Result Draft Complaint → (Draft → Result Request Misuse) → Result Request Misuse
on at (Ok d) next = next d
on at (Err e) next = Err (record { word = at; complaint = e })

-- word after word; the first that is wrong ends it
unfoldable pub asked_from : List Bytes → ℕ → Draft → Result Request Misuse
asked_from [] n d = closed n d d.waits
asked_from (w ∷ ws) n d = on n (word_taken d n w) (asked_from ws (n + 1))

abbrev pub asked_by : List Bytes → Result Request Misuse
asked_by ws = asked_from ws 0 nothing_asked
