-- What a line of the wall says by itself. Assumes nothing: these are definitions.
use Rattle.std.specs.Prelude.{ℕ, ◌-◌, cond, List, [], ◌∷◌, length, take, Some, None, Ok, Err, codes, Option, Result, ◌==◌, slice_index}
use Rattle.std.specs.Str.{bytes_eq}
use Rattle.rows.specs.declared.Row.{Row}
use Rattle.text.specs.Text.{Bytes, words, decimal}
use Rattle.wall_reader.specs.declared.mistake.Reason.{Reason}
use Rattle.wall_reader.specs.declared.mistake.Reason.TheVariants.{Blank, TooFewWords, TooManyWords, NoHour, BadHour, NoPlace, BadPlace, BadSum}

-- the number that a word writes before the colon that ends it
abbrev pub place_of : Bytes → Option ℕ
place_of w = cond (slice_index w (length w - 1) == 58) (decimal (take (length w - 1) w)) None

abbrev pub with_sum : (h k : ℕ) → Option ℕ → Result Row Reason
with_sum h k None = Err BadSum
with_sum h k (Some s) = Ok (record { hour = h; place = k; sum = s })

abbrev pub with_place : ℕ → Option ℕ → Option ℕ → Result Row Reason
with_place h None s = Err BadPlace
with_place h (Some k) s = with_sum h k s

abbrev pub with_hour : Option ℕ → Bytes → Option ℕ → Option ℕ → Result Row Reason
with_hour None b k s = Err BadHour
with_hour (Some h) b k s = cond (bytes_eq b (codes "place")) (with_place h k s) (Err NoPlace)

-- `hour`, a number, `place`, a number and a colon, a number; the first word that is wrong is told
abbrev pub row_by : (a h b k s : Bytes) → Result Row Reason
row_by a h b k s = cond (bytes_eq a (codes "hour")) (with_hour (decimal h) b (place_of k) (decimal s)) (Err NoHour)

-- a row has five words
abbrev pub row_said : List Bytes → Result Row Reason
row_said [] = Err Blank
row_said (a ∷ []) = Err TooFewWords
row_said (a ∷ h ∷ []) = Err TooFewWords
row_said (a ∷ h ∷ b ∷ []) = Err TooFewWords
row_said (a ∷ h ∷ b ∷ k ∷ []) = Err TooFewWords
row_said (a ∷ h ∷ b ∷ k ∷ s ∷ []) = row_by a h b k s
row_said (a ∷ h ∷ b ∷ k ∷ s ∷ w ∷ ws) = Err TooManyWords

abbrev pub row_on : Bytes → Result Row Reason
row_on line = row_said (words line)
