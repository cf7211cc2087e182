use Rattle.std.proofs.Common.{◌≡◌, ℕ, ◌+◌, ◌-◌, drop, Ok, Err, MatchResult, string_bytes, Result, sym, ap, ◌∙◌, arith, rules}
use Rattle.std.proofs.lemmas.Result.{err_from_is_err_and}
use Rattle.sums.specs.Sums.{each}
use Rattle.wall_reader.specs.declared.words.Complaint.{Complaint}
use Rattle.wall_reader.specs.declared.words.Complaint.TheVariants.{NoValue}
use Rattle.wall_reader.specs.declared.words.Draft.{Draft}
use Rattle.wall_reader.specs.declared.words.Misuse.{Misuse}
use Rattle.wall_reader.specs.declared.words.Request.{Request}
use Rattle.wall_reader.specs.Requests.{closed, on, asked_from, word_taken}
use Rattle.wall_reader.proofs.Wording.{word_more, words_all}
use Rattle.wall_reader.proofs.words.parse_words.Goals as goal
use Rattle.wall_reader.proofs.words.parse_words.Goals.{After-map_err}

-- what is taken, with the word's number beside what is wrong with it
abbrev Numbered : ℕ → Result Draft Complaint → Result Draft Misuse → Type 0
Numbered i r m = MatchResult r (λ d. m ≡ Ok d) (λ e. m ≡ Err (record { word = i; complaint = e }))

numbered : (c : After-map_err) → Numbered c.loop-at.at-counter (word_taken c.loop-at.draft c.loop-at.at-counter c.as_str.result.now) c.map_err.result
numbered c = rw (← c.take.ensures) (search rules)

on_ok : (i : ℕ) (r : Result Draft Complaint) (m : Result Draft Misuse) (d : Draft) (next : Draft → Result Request Misuse) → Numbered i r m → m ≡ Ok d → on i r next ≡ next d
on_ok i (Ok x) m d next h e = ap next (cc)
on_ok i (Err x) m d next h e = cc

on_err : (i : ℕ) (r : Result Draft Complaint) (m : Result Draft Misuse) (e : Misuse) (next : Draft → Result Request Misuse) → Numbered i r m → m ≡ Err e → on i r next ≡ Err e
on_err i (Ok x) m e next h is = cc
on_err i (Err x) m e next h is = cc

pub loop-at-preserved : goal.loop-at-preserved
loop-at-preserved c =
    let ws = c.args.words.now in
    let i = c.loop-at.at-counter in
    sym (on_ok i _ c.map_err.result c.in_ok-draft.draft (asked_from (each string_bytes (drop (i + 1) ws)) (i + 1)) (numbered (goal.at.loop-at-preserved c).After-map_err) c.in_ok-draft.was)
    ∙ word_more ws i c.loop-at.draft c.loop-at.invariant c.index-words-at.result c.index-words-at.is c.loop-at-test.true c.as_str.result.now c.as_str.ensures.value

pub returns-in_err-draft : goal.returns-in_err-draft
returns-in_err-draft c =
    let ws = c.args.words.now in
    let i = c.loop-at.at-counter in
    let e = err_from_is_err_and c.from_residual.result c.from_residual.ensures.1 in
    e.1 ∙ ap Err e.2
    ∙ sym (on_err i _ c.map_err.result c.in_err-draft.field-0.0 (asked_from (each string_bytes (drop (i + 1) ws)) (i + 1)) (numbered (goal.at.returns-in_err-draft c).After-map_err) c.in_err-draft.was)
    ∙ word_more ws i c.loop-at.draft c.loop-at.invariant c.index-words-at.result c.index-words-at.is c.loop-at-test.true c.as_str.result.now c.as_str.ensures.value

pub returns-in-None : goal.returns-in-None
returns-in-None c =
    ap (closed c.loop-at.at-counter c.loop-at.draft) (sym c.in-None.is)
    ∙ words_all c.args.words.now c.loop-at.at-counter c.loop-at.draft c.loop-at.invariant c.loop-at-test.false

abbrev missing : ℕ → Result Request Misuse
missing n = Err (record { word = n; complaint = NoValue })

pub returns-in-Some : goal.returns-in-Some
returns-in-Some c =
    let last : c.saturating_sub.result ≡ c.loop-at.at-counter - 1 = omega arith in
    ap missing last ∙ ap (closed c.loop-at.at-counter c.loop-at.draft) (sym c.in-Some.is)
    ∙ words_all c.args.words.now c.loop-at.at-counter c.loop-at.draft c.loop-at.invariant c.loop-at-test.false
