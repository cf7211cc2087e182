-- What the words behind `station` ask for. Assumes nothing: these are definitions.
use Rattle.std.specs.Prelude.{◌≡◌, ℕ, Bool, cond, ◌||◌, List, [], ◌∷◌, Some, None, Ok, Err, codes, Option, Result, eqb, length, nat_lt, String, string_bytes}
use Rattle.std.specs.Global.{Global}
use Rattle.std.specs.List.{starts_with}
use Rattle.std.specs.Str.{bytes_eq}
use Rattle.text.specs.Text.{Bytes, decimal}
use Rattle.keeper.specs.declared.options.Name.{Name}
use Rattle.keeper.specs.declared.options.Name.TheVariants.{Drawers, Gauge, Wall}
use Rattle.keeper.specs.declared.options.Options.{Options}
use Rattle.keeper.specs.declared.options.Request.{Request}
use Rattle.keeper.specs.declared.options.Request.TheVariants as request
use Rattle.keeper.specs.declared.options.Said.{Said}
use Rattle.keeper.specs.declared.options.UsageError.{UsageError}
use Rattle.keeper.specs.declared.options.UsageError.TheVariants.{UnknownOption, MissingValue, Missing, Twice, MissingMachine, TwoMachines, NotAMachine}

-- the text that a user writes
abbrev pub name_of : Name → Bytes
name_of Drawers = codes "--drawers"
name_of Gauge = codes "--gauge"
name_of Wall = codes "--wall"

-- the option of a name, behind which so many words stand
abbrev pub named : Bytes → ℕ → Result Name UsageError
named w behind =
    cond (bytes_eq w (codes "--drawers")) (Ok Drawers)
    (cond (bytes_eq w (codes "--gauge")) (Ok Gauge)
    (cond (bytes_eq w (codes "--wall")) (Ok Wall) (Err (UnknownOption behind))))

-- what was said so far, names of files as bytes
pub record Given : Type 0 where
  pub machine : Option ℕ
  pub drawers : Option Bytes
  pub gauge : Option Bytes
  pub wall : Option Bytes

abbrev pub none_given : Given
none_given = record { machine = None; drawers = None; gauge = None; wall = None }

-- the value of an option that was not given
abbrev pub value_given : Given → Name → Option Bytes → Bytes → Result Given UsageError
value_given g n (Some old) v = Err (Twice n)
value_given g Drawers None v = Ok (record { machine = g.machine; drawers = Some v; gauge = g.gauge; wall = g.wall })
value_given g Gauge None v = Ok (record { machine = g.machine; drawers = g.drawers; gauge = Some v; wall = g.wall })
value_given g Wall None v = Ok (record { machine = g.machine; drawers = g.drawers; gauge = g.gauge; wall = Some v })

abbrev pub value_of : Given → Name → Option Bytes
value_of g Drawers = g.drawers
value_of g Gauge = g.gauge
value_of g Wall = g.wall

abbrev pub with_value : Given → Name → Bytes → Result Given UsageError
with_value g n v = value_given g n (value_of g n) v

-- a machine's number, which was not given
abbrev pub numbered : Given → Option ℕ → Result Given UsageError
numbered g None = Err NotAMachine
numbered g (Some i) = cond (nat_lt i 8) (Ok (record { machine = Some i; drawers = g.drawers; gauge = g.gauge; wall = g.wall })) (Err NotAMachine)

abbrev pub machine_given : Given → Option ℕ → Bytes → Result Given UsageError
machine_given g (Some old) w = Err TwoMachines
machine_given g None w = numbered g (decimal w)

abbrev pub with_machine : Given → Bytes → Result Given UsageError
with_machine g w = machine_given g g.machine w

-- a machine, and the names of its drawers' folder, its gauge's file and the wall; or the words that say how
pub data Asked : Type 0 where
  help : Asked
  run : ℕ → Bytes → Bytes → Bytes → Asked

-- all four are to be given
abbrev pub all_given : Option ℕ → (drawers gauge wall : Option Bytes) → Result Asked UsageError
all_given None d g w = Err MissingMachine
all_given (Some i) None g w = Err (Missing Drawers)
all_given (Some i) (Some d) None w = Err (Missing Gauge)
all_given (Some i) (Some d) (Some g) None = Err (Missing Wall)
all_given (Some i) (Some d) (Some g) (Some w) = Ok (run i d g w)

abbrev pub finished : Given → Result Asked UsageError
finished g = all_given g.machine g.drawers g.gauge g.wall

abbrev pub on : {A : Type 0} → Result A UsageError → (A → Result Asked UsageError) → Result Asked UsageError
on (Ok x) next = next x
on (Err e) next = Err e

abbrev pub asks_help : Bytes → Bool
asks_help w = bytes_eq w (codes "--help") || bytes_eq w (codes "-h")

-- word after word, a value behind its option's name; the first that is wrong ends it, and so does `--help` or `-h`
unfoldable pub asked_from : List Bytes → Option Name → Given → Result Asked UsageError
asked_from [] (Some n) g = Err (MissingValue n)
asked_from [] None g = finished g
asked_from (w ∷ ws) (Some n) g = on (with_value g n w) (asked_from ws None)
asked_from (w ∷ ws) None g =
    cond (asks_help w) (Ok help)
    (cond (starts_with eqb w (codes "-")) (on (named w (length ws)) (λ n. asked_from ws (Some n) g))
    (on (with_machine g w) (asked_from ws None)))

abbrev pub asked : List Bytes → Result Asked UsageError
asked ws = asked_from ws None none_given

-- what the code has is this
abbrev pub some_bytes : Option (String Global) → Option Bytes
some_bytes None = None
some_bytes (Some s) = Some (string_bytes s)

abbrev pub as_given : Said → Given
as_given s = record { machine = s.machine; drawers = some_bytes s.drawers; gauge = some_bytes s.gauge; wall = some_bytes s.wall }

abbrev pub as_run : Options → Asked
as_run o = run o.machine (string_bytes o.drawers) (string_bytes o.gauge) (string_bytes o.wall)

abbrev pub as_asked : Request → Asked
as_asked request.Help = help
as_asked (request.Run o) = as_run o

abbrev pub Finishes : Result Asked UsageError → Result Options UsageError → Type 0
Finishes a (Ok o) = a ≡ Ok (as_run o)
Finishes a (Err e) = a ≡ Err e

abbrev pub Answers : Result Asked UsageError → Result Request UsageError → Type 0
Answers a (Ok r) = a ≡ Ok (as_asked r)
Answers a (Err e) = a ≡ Err e

-- what was said is this then, or is refused
abbrev pub Takes : Result Given UsageError → Result (Unit {0}) UsageError → Given → Type 0
Takes a (Ok u) g = a ≡ Ok g
Takes a (Err e) g = a ≡ Err e

abbrev pub Puts : Name → String Global → Option (String Global) → Result (Unit {0}) UsageError → Option (String Global) → Type 0
Puts n v (Some old) r place = r ≡ Err (Twice n)
Puts n v None r place = (r ≡ Ok tt) × (place ≡ Some v)
