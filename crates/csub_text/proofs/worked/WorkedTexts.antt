-- Written by hand: a worked text: its tokens, what they spell, and the program that it describes; and what describes none.
use Rattle.std.proofs.Common.{◌≡◌, ◌<◌, ℕ, true, false, List, [], ◌∷◌, Some, map, codes, refl, arith, lit≤}
use Rattle.net_expressions.specs.Grammar.{Word, Bit, Not, Round}
use Rattle.csub_text.specs.Trees.{Program, Name}
use Rattle.csub_text.specs.Trees as trees
use Rattle.csub_text.specs.Tokens.{Static, Int, Return, Void, React, LeftParenthesis, RightParenthesis, LeftBrace, RightBrace}
use Rattle.csub_text.specs.Tokens.{Semicolon, Equals, One, Bang, Named, kinds}
use Rattle.csub_text.specs.Grammar.{WrittenProgram, SpellsText, program_meant, body_nesting, text_nesting}
use Rattle.csub_text.specs.Names.{Twice, name_fault}
use Rattle.csub_text.specs.Texts.{Describes, nesting_limit}

abbrev text : List ℕ
text = codes "static int s = 1; int O_B; int react(void) { int x; x = !s; O_B = x; return s; }"

abbrev written : WrittenProgram
written = record {
  states = record { name = codes "s"; init = true } ∷ [];
  globals = codes "O_B" ∷ [];
  locals = codes "x" ∷ [];
  body = record { target = codes "x"; value = Not (Word (codes "s")) } ∷ record { target = codes "O_B"; value = Word (codes "x") } ∷ [];
  answer = Word (codes "s");
}

abbrev program : Program
program = record {
  states = record { name = codes "s"; init = true } ∷ [];
  globals = codes "O_B" ∷ [];
  locals = codes "x" ∷ [];
  body = record { target = codes "x"; value = trees.Not (Name (codes "s")) } ∷ record { target = codes "O_B"; value = Name (codes "x") } ∷ [];
  answer = Name (codes "s");
}

its_tokens : kinds text
    ≡ Static ∷ Int ∷ Named (codes "s") ∷ Equals ∷ One ∷ Semicolon ∷ Int ∷ Named (codes "O_B") ∷ Semicolon ∷ Int ∷ React ∷ LeftParenthesis ∷ Void
    ∷ RightParenthesis ∷ LeftBrace ∷ Int ∷ Named (codes "x") ∷ Semicolon ∷ Named (codes "x") ∷ Equals ∷ Bang ∷ Named (codes "s") ∷ Semicolon
    ∷ Named (codes "O_B") ∷ Equals ∷ Named (codes "x") ∷ Semicolon ∷ Return ∷ Named (codes "s") ∷ Semicolon ∷ RightBrace ∷ []
its_tokens = refl

spelled : SpellsText written (kinds text)
spelled = record {
  front = Static ∷ Int ∷ Named (codes "s") ∷ Equals ∷ One ∷ Semicolon ∷ [];
  back = Int ∷ Named (codes "O_B") ∷ Semicolon ∷ Int ∷ React ∷ LeftParenthesis ∷ Void ∷ RightParenthesis ∷ LeftBrace ∷ Int ∷ Named (codes "x")
      ∷ Semicolon ∷ Named (codes "x") ∷ Equals ∷ Bang ∷ Named (codes "s") ∷ Semicolon ∷ Named (codes "O_B") ∷ Equals ∷ Named (codes "x")
      ∷ Semicolon ∷ Return ∷ Named (codes "s") ∷ Semicolon ∷ RightBrace ∷ [];
  cut = refl;
  first = record {
    front = Static ∷ Int ∷ Named (codes "s") ∷ Equals ∷ One ∷ Semicolon ∷ [];
    back = [];
    cut = refl;
    first = record {
      token = Static;
      value = tt;
      rest = Int ∷ Named (codes "s") ∷ Equals ∷ One ∷ Semicolon ∷ [];
      cut = refl;
      passes = refl;
      behind = record {
        token = Int;
        value = tt;
        rest = Named (codes "s") ∷ Equals ∷ One ∷ Semicolon ∷ [];
        cut = refl;
        passes = refl;
        behind = record {
          front = Named (codes "s") ∷ [];
          back = Equals ∷ One ∷ Semicolon ∷ [];
          cut = refl;
          first = record { token = Named (codes "s"); only = refl; passes = refl };
          second = record {
            token = Equals;
            value = tt;
            rest = One ∷ Semicolon ∷ [];
            cut = refl;
            passes = refl;
            behind = record {
              front = One ∷ [];
              back = Semicolon ∷ [];
              cut = refl;
              first = record { token = One; only = refl; passes = refl };
              second = record { token = Semicolon; only = refl; passes = refl };
            };
          };
        };
      };
    };
    second = refl;
  };
  second = record {
    front = Int ∷ Named (codes "O_B") ∷ Semicolon ∷ Int ∷ React ∷ [];
    back = LeftParenthesis ∷ Void ∷ RightParenthesis ∷ LeftBrace ∷ Int ∷ Named (codes "x") ∷ Semicolon ∷ Named (codes "x") ∷ Equals ∷ Bang
        ∷ Named (codes "s") ∷ Semicolon ∷ Named (codes "O_B") ∷ Equals ∷ Named (codes "x") ∷ Semicolon ∷ Return ∷ Named (codes "s") ∷ Semicolon
        ∷ RightBrace ∷ [];
    cut = refl;
    first = record {
      front = Int ∷ Named (codes "O_B") ∷ Semicolon ∷ [];
      back = Int ∷ React ∷ [];
      cut = refl;
      first = record {
        token = Int;
        value = tt;
        rest = Named (codes "O_B") ∷ Semicolon ∷ [];
        cut = refl;
        passes = refl;
        behind = record {
          front = Named (codes "O_B") ∷ [];
          back = Semicolon ∷ [];
          cut = refl;
          first = record { token = Named (codes "O_B"); only = refl; passes = refl };
          second = record { token = Semicolon; only = refl; passes = refl };
        };
      };
      second = record {
        token = Int;
        value = tt;
        rest = React ∷ [];
        cut = refl;
        passes = refl;
        behind = record { token = React; only = refl; passes = refl };
      };
    };
    second = record {
      token = LeftParenthesis;
      value = tt;
      rest = Void ∷ RightParenthesis ∷ LeftBrace ∷ Int ∷ Named (codes "x") ∷ Semicolon ∷ Named (codes "x") ∷ Equals ∷ Bang ∷ Named (codes "s")
          ∷ Semicolon ∷ Named (codes "O_B") ∷ Equals ∷ Named (codes "x") ∷ Semicolon ∷ Return ∷ Named (codes "s") ∷ Semicolon ∷ RightBrace ∷ [];
      cut = refl;
      passes = refl;
      behind = record {
        token = Void;
        value = tt;
        rest = RightParenthesis ∷ LeftBrace ∷ Int ∷ Named (codes "x") ∷ Semicolon ∷ Named (codes "x") ∷ Equals ∷ Bang ∷ Named (codes "s")
            ∷ Semicolon ∷ Named (codes "O_B") ∷ Equals ∷ Named (codes "x") ∷ Semicolon ∷ Return ∷ Named (codes "s") ∷ Semicolon ∷ RightBrace ∷ [];
        cut = refl;
        passes = refl;
        behind = record {
          token = RightParenthesis;
          value = tt;
          rest = LeftBrace ∷ Int ∷ Named (codes "x") ∷ Semicolon ∷ Named (codes "x") ∷ Equals ∷ Bang ∷ Named (codes "s") ∷ Semicolon
              ∷ Named (codes "O_B") ∷ Equals ∷ Named (codes "x") ∷ Semicolon ∷ Return ∷ Named (codes "s") ∷ Semicolon ∷ RightBrace ∷ [];
          cut = refl;
          passes = refl;
          behind = record {
            token = LeftBrace;
            value = tt;
            rest = Int ∷ Named (codes "x") ∷ Semicolon ∷ Named (codes "x") ∷ Equals ∷ Bang ∷ Named (codes "s") ∷ Semicolon ∷ Named (codes "O_B")
                ∷ Equals ∷ Named (codes "x") ∷ Semicolon ∷ Return ∷ Named (codes "s") ∷ Semicolon ∷ RightBrace ∷ [];
            cut = refl;
            passes = refl;
            behind = record {
              front = Int ∷ Named (codes "x") ∷ Semicolon ∷ [];
              back = Named (codes "x") ∷ Equals ∷ Bang ∷ Named (codes "s") ∷ Semicolon ∷ Named (codes "O_B") ∷ Equals ∷ Named (codes "x")
                  ∷ Semicolon ∷ Return ∷ Named (codes "s") ∷ Semicolon ∷ RightBrace ∷ [];
              cut = refl;
              first = record {
                front = Int ∷ Named (codes "x") ∷ Semicolon ∷ [];
                back = [];
                cut = refl;
                first = record {
                  token = Int;
                  value = tt;
                  rest = Named (codes "x") ∷ Semicolon ∷ [];
                  cut = refl;
                  passes = refl;
                  behind = record {
                    front = Named (codes "x") ∷ [];
                    back = Semicolon ∷ [];
                    cut = refl;
                    first = record {
                      token = Named (codes "x");
                      only = refl;
                      passes = refl;
                    };
                    second = record {
                      token = Semicolon;
                      only = refl;
                      passes = refl;
                    };
                  };
                };
                second = refl;
              };
              second = record {
                front = Named (codes "x") ∷ Equals ∷ Bang ∷ Named (codes "s") ∷ Semicolon ∷ Named (codes "O_B") ∷ Equals ∷ Named (codes "x")
                    ∷ Semicolon ∷ [];
                back = Return ∷ Named (codes "s") ∷ Semicolon ∷ RightBrace ∷ [];
                cut = refl;
                first = record {
                  front = Named (codes "x") ∷ Equals ∷ Bang ∷ Named (codes "s") ∷ Semicolon ∷ [];
                  back = Named (codes "O_B") ∷ Equals ∷ Named (codes "x") ∷ Semicolon ∷ [];
                  cut = refl;
                  first = record {
                    front = Named (codes "x") ∷ [];
                    back = Equals ∷ Bang ∷ Named (codes "s") ∷ Semicolon ∷ [];
                    cut = refl;
                    first = record {
                      token = Named (codes "x");
                      only = refl;
                      passes = refl;
                    };
                    second = record {
                      token = Equals;
                      value = tt;
                      rest = Bang ∷ Named (codes "s") ∷ Semicolon ∷ [];
                      cut = refl;
                      passes = refl;
                      behind = record {
                        front = Bang ∷ Named (codes "s") ∷ [];
                        back = Semicolon ∷ [];
                        cut = refl;
                        first = record {
                          token = Bang;
                          value = tt;
                          rest = Named (codes "s") ∷ [];
                          cut = refl;
                          passes = refl;
                          behind = record {
                            token = Named (codes "s");
                            only = refl;
                            passes = refl;
                          };
                        };
                        second = record {
                          token = Semicolon;
                          only = refl;
                          passes = refl;
                        };
                      };
                    };
                  };
                  second = record {
                    front = Named (codes "O_B") ∷ Equals ∷ Named (codes "x") ∷ Semicolon ∷ [];
                    back = [];
                    cut = refl;
                    first = record {
                      front = Named (codes "O_B") ∷ [];
                      back = Equals ∷ Named (codes "x") ∷ Semicolon ∷ [];
                      cut = refl;
                      first = record {
                        token = Named (codes "O_B");
                        only = refl;
                        passes = refl;
                      };
                      second = record {
                        token = Equals;
                        value = tt;
                        rest = Named (codes "x") ∷ Semicolon ∷ [];
                        cut = refl;
                        passes = refl;
                        behind = record {
                          front = Named (codes "x") ∷ [];
                          back = Semicolon ∷ [];
                          cut = refl;
                          first = record {
                            token = Named (codes "x");
                            only = refl;
                            passes = refl;
                          };
                          second = record {
                            token = Semicolon;
                            only = refl;
                            passes = refl;
                          };
                        };
                      };
                    };
                    second = refl;
                  };
                };
                second = record {
                  token = Return;
                  value = tt;
                  rest = Named (codes "s") ∷ Semicolon ∷ RightBrace ∷ [];
                  cut = refl;
                  passes = refl;
                  behind = record {
                    front = Named (codes "s") ∷ [];
                    back = Semicolon ∷ RightBrace ∷ [];
                    cut = refl;
                    first = record {
                      token = Named (codes "s");
                      only = refl;
                      passes = refl;
                    };
                    second = record {
                      token = Semicolon;
                      value = tt;
                      rest = RightBrace ∷ [];
                      cut = refl;
                      passes = refl;
                      behind = record {
                        token = RightBrace;
                        only = refl;
                        passes = refl;
                      };
                    };
                  };
                };
              };
            };
          };
        };
      };
    };
  };
}

described : Describes text program
described = record { written = written; spelled = (spelled, lit≤ tt); means = refl; names_fit = refl }

what_it_describes : (text : List ℕ) (p : Program) (h : Describes text p) → program_meant h.written ≡ p
what_it_describes text p h = h.means

-- how deep expressions are nested: in an assignment, and in what is returned
nestings : map text_nesting (written ∷ record written { answer = Round (Not (Bit false)) } ∷ record written { body = [] } ∷ []) ≡ 1 ∷ 2 ∷ 0 ∷ []
nestings = refl

nestings_of_bodies : map body_nesting ([] ∷ written.body ∷ (record { target = codes "x"; value = Bit true } ∷ written.body) ∷ []) ≡ 0 ∷ 1 ∷ 1 ∷ []
nestings_of_bodies = refl

as_deep_as_they_may_be : nesting_limit ≡ 200
as_deep_as_they_may_be = refl

too_deep : (text : List ℕ) (p : Program) (h : Describes text p) → 200 < text_nesting h.written → ⊥
too_deep text p h deep = let low = h.spelled.1 in omega (arith, low, deep)

names_that_do_not_fit : (text : List ℕ) (p : Program) → name_fault p ≡ Some (Twice (codes "x")) → Describes text p → ⊥
names_that_do_not_fit text p faulty h = let fit = h.names_fit in cc
