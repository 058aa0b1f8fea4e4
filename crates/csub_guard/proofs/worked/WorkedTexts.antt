-- Written by hand: a worked block: its tokens, and that they spell it.
use Rattle.std.proofs.Common.{◌≡◌, List, [], ◌∷◌, codes, refl, Some}
use Rattle.csub_text.specs.Tokens.{Kind, If, Else, LeftParenthesis, RightParenthesis, LeftBrace, RightBrace, Equals, Semicolon, One, Named}
use Rattle.csub_guard.specs.Grammar.{IfWritten, SpellsHalf, SpellsPiece}
use Rattle.csub_guard.specs.Tokens.{kinds}

abbrev half_tokens : List Kind
half_tokens = LeftBrace ∷ RightBrace ∷ []

abbrev block_tokens : List Kind
block_tokens = If ∷ LeftParenthesis ∷ Named (codes "iffy") ∷ RightParenthesis ∷ LeftBrace ∷ RightBrace
    ∷ Else ∷ half_tokens

tokens_of_block : kinds (codes "if(iffy)/* if */{ }\n  else{}") ≡ block_tokens
tokens_of_block = refl

tokens_of_assign : kinds (codes "else1 = 1;") ≡ Named (codes "else1") ∷ Equals ∷ One ∷ Semicolon ∷ []
tokens_of_assign = refl

spells_half : SpellsHalf [] half_tokens
spells_half = record {
  token = LeftBrace;
  value = tt;
  rest = RightBrace ∷ [];
  cut = refl;
  passes = refl;
  behind = record {
    front = [];
    back = RightBrace ∷ [];
    cut = refl;
    first = refl;
    second = record { token = RightBrace; only = refl; passes = refl };
  };
}

spells_block : SpellsPiece (IfWritten (codes "iffy") [] (Some [])) block_tokens
spells_block = record {
  token = If;
  value = tt;
  rest = LeftParenthesis ∷ Named (codes "iffy") ∷ RightParenthesis ∷ LeftBrace ∷ RightBrace ∷ Else ∷ half_tokens;
  cut = refl;
  passes = refl;
  behind = record {
    token = LeftParenthesis;
    value = tt;
    rest = Named (codes "iffy") ∷ RightParenthesis ∷ LeftBrace ∷ RightBrace ∷ Else ∷ half_tokens;
    cut = refl;
    passes = refl;
    behind = record {
      front = Named (codes "iffy") ∷ [];
      back = RightParenthesis ∷ LeftBrace ∷ RightBrace ∷ Else ∷ half_tokens;
      cut = refl;
      first = record { token = Named (codes "iffy"); only = refl; passes = refl };
      second = record {
        token = RightParenthesis;
        value = tt;
        rest = LeftBrace ∷ RightBrace ∷ Else ∷ half_tokens;
        cut = refl;
        passes = refl;
        behind = record {
          front = half_tokens;
          back = Else ∷ half_tokens;
          cut = refl;
          first = spells_half;
          second = record { token = Else; value = tt; rest = half_tokens; cut = refl; passes = refl; behind = spells_half };
        };
      };
    };
  };
}
