-- The parts of each kind that are as long as they can be.
use Rattle.std.proofs.Common.{◌≡◌, ℕ, ◌<◌, ◌≤◌, List, length, get_or, sym, ◌∙◌, ap, subst, ⊎_elim, arith}
use Rattle.std.proofs.lemmas.Bool.{cases_lt}
use Rattle.est_ast.specs.Spelling.{sign}
use Rattle.est_ast.specs.Lexemes.{IsNameByte, IsDigit, BeginsWithSpace, BeginsWithLineComment, BeginsWithBlockComment, BeginsWithWord, BeginsWithNumeral}
use Rattle.est_ast.specs.Lexemes.{BeginsWithMark, LexicalPart, Space, LineComment, BlockComment, Word, Numeral, Sign, BeginsPart, BeginsLongest}
use Rattle.est_ast.proofs.Heads.{opens, one_part, mark_head}
use Rattle.est_ast.proofs.OneToken.{mark_of, mark_of-head}

-- only parts of its own kind could be longer
pub longest_of_kind : (part : LexicalPart) (text : List ℕ) (n : ℕ) → BeginsPart part text n → ((m : ℕ) → BeginsPart part text m → m ≤ n)
    → BeginsLongest part text n
longest_of_kind part text n begins longest = record {
  begins = begins;
  longest = λ other m found.
      longest m (subst (λ (kind : LexicalPart). BeginsPart kind text m) (one_part other part text (opens other text m found) (opens part text n begins)) found);
}

pub longest_space : (text : List ℕ) (n : ℕ) → BeginsWithSpace text n → BeginsLongest Space text n
longest_space text n begins = longest_of_kind Space text n begins (λ m other. omega (arith, other.one_byte, begins.one_byte))

pub longest_line : (text : List ℕ) (n : ℕ) → BeginsWithLineComment text n → BeginsLongest LineComment text n
longest_line text n begins = longest_of_kind LineComment text n begins
    (λ m other. ⊎_elim (λ (more : n < m). absurd (other.one_line n more (begins.up_to_end (omega (arith, other.within))))) (λ (fits : m ≤ n). fits)
    (cases_lt n m))

pub longest_block : (text : List ℕ) (n : ℕ) → BeginsWithBlockComment text n → BeginsLongest BlockComment text n
longest_block text n begins = longest_of_kind BlockComment text n begins
    (λ m other. ⊎_elim (λ (more : begins.close < other.close). absurd (other.next begins.close begins.behind more begins.closes))
    (λ (fits : other.close ≤ begins.close). omega (arith, fits, other.length_is, begins.length_is)) (cases_lt begins.close other.close))

-- a word, where no byte of a name follows
pub longest_word : (text : List ℕ) (n : ℕ) → BeginsWithWord text n → (n < length text → ¬ IsNameByte (get_or text n 0)) → BeginsLongest Word text n
longest_word text n begins ends = longest_of_kind Word text n begins
    (λ m other. ⊎_elim (λ (more : n < m). absurd (ends (omega (arith, other.within)) (other.name_bytes n more))) (λ (fits : m ≤ n). fits) (cases_lt n m))

-- a numeral, where no digit follows
pub longest_numeral : (text : List ℕ) (n : ℕ) → BeginsWithNumeral text n → (n < length text → ¬ IsDigit (get_or text n 0)) → BeginsLongest Numeral text n
longest_numeral text n begins ends = longest_of_kind Numeral text n begins
    (λ m other. ⊎_elim (λ (more : n < m). absurd (ends (omega (arith, other.within)) (other.digits n more))) (λ (fits : m ≤ n). fits) (cases_lt n m))

-- one mark begins a text at most
pub one_mark_begins : (text : List ℕ) (n m : ℕ) → (a : BeginsWithMark text n) → (b : BeginsWithMark text m) → a.mark ≡ b.mark
one_mark_begins text n m a b =
    sym (mark_of-head a.mark) ∙ ap mark_of (sym (mark_head text n a) ∙ mark_head text m b) ∙ mark_of-head b.mark

pub longest_sign : (text : List ℕ) (n : ℕ) → BeginsWithMark text n → BeginsLongest Sign text n
longest_sign text n begins = longest_of_kind Sign text n begins
    (λ m other. omega (arith, begins.length_is, other.length_is, ap (λ mark. length (sign mark)) (one_mark_begins text n m begins other)))
