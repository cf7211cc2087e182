-- The words behind `station`, one after the other. Assumes nothing.
use Rattle.std.proofs.Common.{◌≡◌, ℕ, length, true, false, List, [], ◌∷◌, map, Some, None, Ok, Err, codes, eqb, is_some, Option, Result, String, Global, string_bytes, sym, ap, ◌∙◌, subst}
use Rattle.std.specs.Option.{ok_or}
use Rattle.std.specs.Result.{IsErrAnd}
use Rattle.std.specs.List.{starts_with}
use Rattle.std.specs.Vec.Iter.{into_iter_items, into_iter_steps, into_iter_len}
use Rattle.std.specs.declared.vec.IntoIter.{IntoIter}
use Rattle.std.proofs.lemmas.List.{length-map, nil_from_length}
use Rattle.std.proofs.lemmas.Result.{err_from_is_err_and}
use Rattle.text.specs.Text.{Bytes}
use Rattle.keeper.specs.declared.options.Request.{Request}
use Rattle.keeper.specs.declared.options.Name.{Name}
use Rattle.keeper.specs.declared.options.UsageError.{UsageError}
use Rattle.keeper.specs.declared.options.UsageError.TheVariants.{MissingValue}
use Rattle.keeper.specs.Words.{Answers, Asked, Given, asked_from, asks_help, help, named, on, with_machine, with_value}

module _ (w : Bytes) (ws : List Bytes) (g : Given) where
  asked_help : asks_help w ≡ true → asked_from (w ∷ ws) None g ≡ Ok help
  unfolding asked_from
  asked_help h = simp h

  asked_option : asks_help w ≡ false → starts_with eqb w (codes "-") ≡ true → asked_from (w ∷ ws) None g ≡ on (named w (length ws)) (λ n. asked_from ws (Some n) g)
  unfolding asked_from
  asked_option h d = simp (h, d)

  asked_number : asks_help w ≡ false → starts_with eqb w (codes "-") ≡ false → asked_from (w ∷ ws) None g ≡ on (with_machine g w) (asked_from ws None)
  unfolding asked_from
  asked_number h d = simp (h, d)

-- the words that are left begin with this one
module _ (hs : List (String Global)) (s : String Global) (rest : List (String Global)) (w : Bytes) (g : Given) (is : hs ≡ s ∷ rest) (by : w ≡ string_bytes s) where
  begun : asked_from (map string_bytes hs) None g ≡ asked_from (w ∷ map string_bytes rest) None g
  begun = ap (λ l. asked_from (map string_bytes l) None g) is ∙ ap (λ v. asked_from (v ∷ map string_bytes rest) None g) (sym by)

  pub said_help : true ≡ asks_help w → asked_from (map string_bytes hs) None g ≡ Ok help
  said_help h = begun ∙ asked_help w (map string_bytes rest) g (sym h)

  pub said_option : false ≡ asks_help w → starts_with eqb w (codes "-") ≡ true → (behind : ℕ) → behind ≡ length rest →
      asked_from (map string_bytes hs) None g ≡ on (named w behind) (λ n. asked_from (map string_bytes rest) (Some n) g)
  said_option h d behind many =
      begun ∙ asked_option w (map string_bytes rest) g (sym h) d
      ∙ ap (λ k. on (named w k) (λ n. asked_from (map string_bytes rest) (Some n) g)) (length-map rest string_bytes ∙ sym many)

  pub said_number : false ≡ asks_help w → starts_with eqb w (codes "-") ≡ false →
      asked_from (map string_bytes hs) None g ≡ on (with_machine g w) (asked_from (map string_bytes rest) None)
  said_number h d = begun ∙ asked_number w (map string_bytes rest) g (sym h) d

-- what is left to come is so many, none, or this one and the rest
pub so_many_left : (it : IntoIter (String Global) Global) → into_iter_len it ≡ length (into_iter_items it)
so_many_left it = it.rest.ok.0

pub none_left : (it : IntoIter (String Global) Global) → into_iter_len it ≡ 0 → into_iter_items it ≡ []
none_left it e = nil_from_length (into_iter_items it) (sym it.rest.ok.0 ∙ e)

pub no_value : (it left : IntoIter (String Global) Global) (r : Option (String Global)) (n : Name) (g : Given) (e : UsageError) → into_iter_steps it r left → false ≡ is_some r →
    Err e ≡ ok_or r (MissingValue n) → asked_from (map string_bytes (into_iter_items it)) (Some n) g ≡ Err e
unfolding asked_from
no_value it left None n g e h f q = ap (λ l. asked_from (map string_bytes l) (Some n) g) (none_left it h.0) ∙ again (sym q)
  where
    again : ◌≡◌ {A = Result (String Global) UsageError} (Err (MissingValue n)) (Err e) → ◌≡◌ {A = Result Asked UsageError} (Err (MissingValue n)) (Err e)
    again q = cc
no_value it left (Some v) n g e h f q = cc

pub some_value : (it left : IntoIter (String Global) Global) (r : Option (String Global)) (v : String Global) (n : Name) (g : Given) → into_iter_steps it r left → r ≡ Some v →
    asked_from (map string_bytes (into_iter_items it)) (Some n) g ≡ on (with_value g n (string_bytes v)) (asked_from (map string_bytes (into_iter_items left)) None)
unfolding asked_from
some_value it left None v n g h e = cc
some_value it left (Some u) v n g h e =
    ap (λ l. asked_from (map string_bytes l) (Some n) g) h.0
    ∙ ap (λ w. on (with_value g n w) (asked_from (map string_bytes (into_iter_items left)) None)) (option_value e)
  where
    option_value : Some u ≡ Some v → string_bytes u ≡ string_bytes v
    option_value q = cc

-- an error that is handed on
pub answered : (a : Result Asked UsageError) (r : Result Request UsageError) (e : UsageError) → IsErrAnd r (λ x. x ≡ e) → a ≡ Err e → Answers a r
answered a r e h q = let p = err_from_is_err_and r h in subst (Answers a) (sym p.1) (subst (λ x. a ≡ Err x) (sym p.2) q)
