-- The whole file of document 01, "Proof file", byte by byte, and what the document says of it and of damaged copies ("Sums done by hand").
use Rattle.std.specs.Prelude.{◌≡◌, List, [], ◌∷◌, ◌++◌, ℕ, take}
use Rattle.layout.specs.Reading.{file, refused_at, reading}
use Rattle.layout.specs.File.{file_of}
use Rattle.narrow_file.specs.Narrow.{narrow}

-- `sumproof=1`
abbrev pub line1 : List ℕ
line1 = 115 ∷ 117 ∷ 109 ∷ 112 ∷ 114 ∷ 111 ∷ 111 ∷ 102 ∷ 61 ∷ 49 ∷ 10 ∷ []

-- `field=2147483647`
abbrev pub line2 : List ℕ
line2 = 102 ∷ 105 ∷ 101 ∷ 108 ∷ 100 ∷ 61 ∷ 50 ∷ 49 ∷ 52 ∷ 55 ∷ 52 ∷ 56 ∷ 51 ∷ 54 ∷ 52 ∷ 55 ∷ 10 ∷ []

-- `vars=2`
abbrev pub line3 : List ℕ
line3 = 118 ∷ 97 ∷ 114 ∷ 115 ∷ 61 ∷ 50 ∷ 10 ∷ []

-- `degree=2`
abbrev pub line4 : List ℕ
line4 = 100 ∷ 101 ∷ 103 ∷ 114 ∷ 101 ∷ 101 ∷ 61 ∷ 50 ∷ 10 ∷ []

-- `claim=6`
abbrev pub line5 : List ℕ
line5 = 99 ∷ 108 ∷ 97 ∷ 105 ∷ 109 ∷ 61 ∷ 54 ∷ 10 ∷ []

-- `round=4,0,2147483645`
abbrev pub line6 : List ℕ
line6 = 114 ∷ 111 ∷ 117 ∷ 110 ∷ 100 ∷ 61 ∷ 52 ∷ 44 ∷ 48 ∷ 44 ∷ 50 ∷ 49 ∷ 52 ∷ 55 ∷ 52 ∷ 56 ∷ 51 ∷ 54 ∷ 52 ∷ 53 ∷ 10 ∷ []

-- `round=2147483629,30,2147483639`
abbrev pub line7 : List ℕ
line7 =
    114 ∷ 111 ∷ 117 ∷ 110 ∷ 100 ∷ 61 ∷ 50 ∷ 49 ∷ 52 ∷ 55 ∷ 52 ∷ 56 ∷ 51 ∷ 54 ∷ 50 ∷ 57 ∷ 44 ∷ 51 ∷ 48 ∷ 44 ∷ 50 ∷ 49 ∷ 52 ∷ 55
    ∷ 52 ∷ 56 ∷ 51 ∷ 54 ∷ 51 ∷ 57 ∷ 10 ∷ []

-- `end=2`
abbrev pub line8 : List ℕ
line8 = 101 ∷ 110 ∷ 100 ∷ 61 ∷ 50 ∷ 10 ∷ []

-- `claim=06` and `claim=2147483647`
abbrev pub zero_six : List ℕ
zero_six = 99 ∷ 108 ∷ 97 ∷ 105 ∷ 109 ∷ 61 ∷ 48 ∷ 54 ∷ 10 ∷ []

abbrev pub modulus_claim : List ℕ
modulus_claim = 99 ∷ 108 ∷ 97 ∷ 105 ∷ 109 ∷ 61 ∷ 50 ∷ 49 ∷ 52 ∷ 55 ∷ 52 ∷ 56 ∷ 51 ∷ 54 ∷ 52 ∷ 55 ∷ 10 ∷ []

-- the lines before the claim, the rounds and the end, around a claim
abbrev pub with_claim : List ℕ → List ℕ
with_claim claim = line1 ++ (line2 ++ (line3 ++ (line4 ++ (claim ++ (line6 ++ (line7 ++ line8))))))

abbrev pub whole_file : List ℕ
whole_file = with_claim line5

-- the file is that of its parts; it is read; and each damaged copy gets its refusal and line
pub record Cases : Type 0 where
  pub written : file_of narrow 2 2 6 (4 ∷ 0 ∷ 2147483645 ∷ 2147483629 ∷ 30 ∷ 2147483639 ∷ []) ≡ whole_file
  pub is_read : reading narrow whole_file ≡ file 2 2 6 (4 ∷ 0 ∷ 2147483645 ∷ 2147483629 ∷ 30 ∷ 2147483639 ∷ [])
  -- "Empty file: 11, line 1."
  pub empty : reading narrow [] ≡ refused_at 11 1
  -- "The file above without its second round: line 7 reads `end=2`, refusal 10, line 7."
  pub second_round : reading narrow (line1 ++ (line2 ++ (line3 ++ (line4 ++ (line5 ++ (line6 ++ line8)))))) ≡ refused_at 10 7
  -- "Cut after line 6: 11, line 7."
  pub cut : reading narrow (line1 ++ (line2 ++ (line3 ++ (line4 ++ (line5 ++ line6))))) ≡ refused_at 11 7
  -- "Without its last byte: 10, line 8."
  pub last_byte : reading narrow (take 109 whole_file) ≡ refused_at 10 8
  -- "`claim=06`: 10, line 5. `claim=2147483647`: 12, line 5."
  pub leading_zero : reading narrow (with_claim zero_six) ≡ refused_at 10 5
  pub modulus : reading narrow (with_claim modulus_claim) ≡ refused_at 12 5
