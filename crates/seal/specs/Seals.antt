-- Bytes below their checksum, and what is found below one. Assumes nothing: these are definitions.
use Rattle.std.specs.Prelude.{ℕ, Bool, cond, ◌&&◌, List, [], ◌∷◌, ◌++◌, length, take, drop, Ok, Err, Result, ◌==◌, nat_lt, slice_index}
use Rattle.std.specs.Str.{bytes_eq}
use Rattle.sha2.specs.Sha256.{sha256}
use Rattle.hex.specs.Hex.{encode_lower}
use Rattle.seal.specs.declared.SealError.{SealError}
use Rattle.seal.specs.declared.SealError.TheVariants.{Missing, Mismatch}

-- 64 digits and the line's end
abbrev pub checksum_line : List ℕ → List ℕ
checksum_line bs = encode_lower (sha256 bs) ++ 10 ∷ []

abbrev pub sealed : List ℕ → List ℕ
sealed bs = checksum_line bs ++ bs

-- whether a line of 64 bytes begins it
abbrev pub has_line : List ℕ → Bool
has_line f = nat_lt 64 (length f) && slice_index f 64 == 10

-- what a file holds below its checksum, where that is the checksum of just this
abbrev pub unsealed : List ℕ → Result (List ℕ) SealError
unsealed f = cond (has_line f) (cond (bytes_eq (take 65 f) (checksum_line (drop 65 f))) (Ok (drop 65 f)) (Err Mismatch)) (Err Missing)
