-- The last of some words.
use Rattle.std.proofs.Common.{◌≡◌, ◌≤◌, ◌<◌, ◌-◌, ◌+◌, true, false, cond, List, [], ◌∷◌, ◌++◌, length, map, take, get_or, codes, string_bytes, String, Global, refl, sym, ap, ◌∙◌, arith}
use Rattle.std.proofs.lemmas.List.{take_all, take_more}
use mathlib.Core.List.{map-append}
use Rattle.std.specs.Str.{bytes_eq}
use Rattle.text.specs.Text.{Bytes}
use Rattle.player_args.specs.Progress.{asks_progress, without_progress}

asks_last : (ws : List Bytes) (w : Bytes) → asks_progress (ws ++ w ∷ []) ≡ bytes_eq w (codes "--progress")
unfolding asks_progress
asks_last [] w = refl
asks_last (v ∷ []) w = refl
asks_last (v ∷ u ∷ ws) w = asks_last (u ∷ ws) w

without_last : (ws : List Bytes) (w : Bytes) → bytes_eq w (codes "--progress") ≡ true → without_progress (ws ++ w ∷ []) ≡ ws
unfolding without_progress
without_last [] w e = ap (λ b. cond b [] (w ∷ [])) e
without_last (v ∷ []) w e = ap (λ b. v ∷ cond b [] (w ∷ [])) e
without_last (v ∷ u ∷ ws) w e = ap (λ l. v ∷ l) (without_last (u ∷ ws) w e)

with_last : (ws : List Bytes) (w : Bytes) → bytes_eq w (codes "--progress") ≡ false → without_progress (ws ++ w ∷ []) ≡ ws ++ w ∷ []
unfolding without_progress
with_last [] w e = ap (λ b. cond b [] (w ∷ [])) e
with_last (v ∷ []) w e = ap (λ b. v ∷ cond b [] (w ∷ [])) e
with_last (v ∷ u ∷ ws) w e = ap (λ l. v ∷ l) (with_last (u ∷ ws) w e)

-- the words before the last, and the last, as bytes
parted : (words : List (String Global)) (last : String Global) → 1 ≤ length words → last ≡ get_or words (length words - 1) last →
    map string_bytes words ≡ map string_bytes (take (length words - 1) words) ++ string_bytes last ∷ []
parted words last long is =
    let lt : length words - 1 < length words = omega (arith, long) in
    let le : length words ≤ length words - 1 + 1 = omega (arith, long) in
    let cut : words ≡ take (length words - 1) words ++ last ∷ [] =
    sym (take_all (length words - 1 + 1) words le) ∙ take_more words (length words - 1) last lt
    ∙ ap (λ x. take (length words - 1) words ++ x ∷ []) (sym is) in
    ap (map string_bytes) cut ∙ map-append string_bytes (take (length words - 1) words) (last ∷ [])

-- what is answered: where the last word asks, where it does not, and where there is none
pub asks : (words : List (String Global)) (last : String Global) → 1 ≤ length words → last ≡ get_or words (length words - 1) last →
    asks_progress (map string_bytes words) ≡ bytes_eq (string_bytes last) (codes "--progress")
asks words last long is = ap asks_progress (parted words last long is) ∙ asks_last _ _

pub before : (words : List (String Global)) (last : String Global) → 1 ≤ length words → last ≡ get_or words (length words - 1) last →
    bytes_eq (string_bytes last) (codes "--progress") ≡ true →
    map string_bytes (take (length words - 1) words) ≡ without_progress (map string_bytes words)
before words last long is e = sym (ap without_progress (parted words last long is) ∙ without_last _ _ e)

pub all : (words : List (String Global)) (last : String Global) → 1 ≤ length words → last ≡ get_or words (length words - 1) last →
    bytes_eq (string_bytes last) (codes "--progress") ≡ false → map string_bytes words ≡ without_progress (map string_bytes words)
all words last long is e =
    let cut = parted words last long is in
    cut ∙ sym (ap without_progress cut ∙ with_last _ _ e)

pub none_asks : (words : List (String Global)) → length words < 1 → false ≡ asks_progress (map string_bytes words)
unfolding asks_progress
none_asks [] h = refl
none_asks (w ∷ ws) h = absurd (omega arith)

pub none_left : (words : List (String Global)) → length words < 1 → map string_bytes words ≡ without_progress (map string_bytes words)
unfolding without_progress
none_left [] h = refl
none_left (w ∷ ws) h = absurd (omega arith)
