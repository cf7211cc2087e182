use Rattle.std.proofs.Common.{rules, ◌≡◌, ◌≤◌, length, map, string_bytes, String, Global, false, List, [], ◌∷◌, codes, eqb, Result, sym, ap, ◌∙◌, arith}
use Rattle.std.proofs.Math.ListN.{get_or}
use Rattle.std.specs.List.{starts_with}
use Rattle.std.proofs.lemmas.Str.Pattern.{starts_text}
use Rattle.text.specs.Text.{Bytes}
use Rattle.player_args.specs.declared.ArgsError.{ArgsError}
use Rattle.player_args.specs.declared.Command.{Command}
use Rattle.player_args.specs.Asked.{Answers, asked, named, play_of}
use Rattle.player_args.proofs.command_of.Goals as goal

-- a first word that is no command and no option
passed :
    (w : Bytes) (ws : List Bytes)
    → (w ≡ codes "play" → ⊥) → (w ≡ codes "random" → ⊥) → (w ≡ codes "strike" → ⊥) → (w ≡ codes "sums" → ⊥)
    → (w ≡ codes "--help" → ⊥) → (w ≡ codes "-h" → ⊥) → (w ≡ codes "help" → ⊥) → starts_with eqb w (codes "--") ≡ false
    → named w ws ≡ play_of 0 (w ∷ ws)
passed w ws p r s m help h i d = search rules

-- what is asked by words that are asked behind `play` too
behind :
    (words : List (String Global)) (name : String Global) (w : Bytes) (r : Result Command ArgsError)
    → 1 ≤ length words → name ≡ get_or words 0 name → w ≡ string_bytes name
    → ((ws : List Bytes) → named w ws ≡ play_of 0 (w ∷ ws))
    → Answers (play_of 0 (map string_bytes words)) r → Answers (asked (map string_bytes words)) r
behind [] name w r long is by same h = absurd (omega arith)
behind (word ∷ words) name w r long is by same h =
    let at : string_bytes word ≡ w = ap string_bytes (sym is) ∙ sym by in
    let there : named (string_bytes word) (map string_bytes words) ≡ play_of 0 (string_bytes word ∷ map string_bytes words) =
    rw at (same (map string_bytes words))
    in
    rw there h

pub returns-in_default-2 : goal.returns-in_default-2
returns-in_default-2 c =
    let is = c.in_default-as_str in
    let dashes = sym (starts_text c.starts_with.result (codes "--") c.as_str.result.now c.starts_with.ensures.cases) ∙ c.if-starts_with.false in
    behind c.args.words.now c.name-item.result c.as_str.result.now _ c.in-len1-up.len_at_least c.name-item.is c.as_str.ensures.value
    (λ ws. passed _ ws is.not-play is.not-random is.not-strike is.not-sums is.not-text is.not-text-2 is.not-help dashes)
    c.play_command-in_default-2.ensures
