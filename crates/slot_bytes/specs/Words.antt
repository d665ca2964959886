-- Words of four bytes, the lowest byte first. Assumes nothing.
use Rattle.std.specs.Prelude.{List, [], ◌∷◌, ◌++◌, ℕ, ◌+◌, ◌*◌, ◌/◌, ◌%◌, length}
use Rattle.ground.specs.Part.{put}

-- the word of four bytes
abbrev pub word_of : ℕ → ℕ → ℕ → ℕ → ℕ
word_of a b c d = a + b * 256 + c * 65536 + d * 16777216

-- the words of bytes; fewer than four at the end are none
unfoldable pub words_in : List ℕ → List ℕ
words_in [] = []
words_in (a ∷ []) = []
words_in (a ∷ b ∷ []) = []
words_in (a ∷ b ∷ c ∷ []) = []
words_in (a ∷ b ∷ c ∷ d ∷ bs) = word_of a b c d ∷ words_in bs

-- the bytes of words; of a number past 32 bits, its lowest four
unfoldable pub bytes : List ℕ → List ℕ
bytes [] = []
bytes (w ∷ ws) = w % 256 ∷ w / 256 % 256 ∷ w / 65536 % 256 ∷ w / 16777216 % 256 ∷ bytes ws

-- bytes with words in their place, from the k-th word on
unfoldable pub put_words : ℕ → List ℕ → List ℕ → List ℕ
put_words k ws bs = put (4 * k) (4 * length ws) (bytes ws) bs

-- the words of each of some things, one after the other
unfoldable pub each : {A : Type 0} → (A → List ℕ) → List A → List ℕ
each f [] = []
each f (x ∷ xs) = f x ++ each f xs
