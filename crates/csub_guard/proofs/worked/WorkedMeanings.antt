-- Written by hand: a worked text: what its tokens spell, and the program that it describes; how deep pieces are nested, and what they mean.
use Rattle.std.proofs.Common.{◌≡◌, ◌<◌, ℕ, true, false, List, [], ◌∷◌, None, Some, map, codes, refl, arith, lit≤}
use Rattle.base_types.specs.Items.{Event, Reset}
use Rattle.csub_text.specs.Grammar.{WrittenAssign}
use Rattle.csub_text.specs.Tokens.{Static, Int, Return, Void, React, If, Else, LeftParenthesis, RightParenthesis, LeftBrace, RightBrace}
use Rattle.csub_text.specs.Tokens.{Semicolon, Equals, Zero, One, Bang, Named}
use Rattle.csub_text.specs.Trees.{Assign, Name, Const}
use Rattle.csub_text.specs.Trees as expressions
use Rattle.net_expressions.specs.Grammar.{Written, Word, Bit, Not, Round}
use Rattle.csub_guard.specs.Grammar.{OneWritten, IfWritten, WrittenProgram, SpellsText, piece_nesting, pieces_nesting, text_nesting}
use Rattle.csub_guard.specs.Grammar.{piece_meant, program_meant}
use Rattle.csub_guard.specs.Machine.{count_of}
use Rattle.csub_guard.specs.Names.{Twice, name_fault}
use Rattle.csub_guard.specs.Texts.{Describes}
use Rattle.csub_guard.specs.Tokens.{kinds}
use Rattle.csub_guard.specs.Trees as trees
use Rattle.csub_guard.specs.Trees.{Program}

-- ---- pieces

abbrev wrote : List ℕ → Written → WrittenAssign
wrote target value = record { target = target; value = value }

abbrev sets : List ℕ → expressions.Expr → Assign
sets target value = record { target = target; value = value }

-- a = ~1, which is nested once, and b = (~1), which is twice
abbrev once : WrittenAssign
once = wrote (codes "a") (Not (Bit true))

abbrev twice : WrittenAssign
twice = wrote (codes "b") (Round (Not (Bit true)))

nestings : map piece_nesting (OneWritten twice ∷ IfWritten (codes "i") (once ∷ twice ∷ []) None ∷ IfWritten (codes "i") (once ∷ []) (Some (twice ∷ []))
    ∷ IfWritten (codes "i") (twice ∷ []) (Some (once ∷ [])) ∷ IfWritten (codes "i") [] None ∷ []) ≡ 2 ∷ 2 ∷ 2 ∷ 2 ∷ 0 ∷ []
nestings = refl

nestings_of_bodies : map pieces_nesting ([] ∷ (OneWritten once ∷ OneWritten twice ∷ []) ∷ (OneWritten twice ∷ OneWritten once ∷ []) ∷ []) ≡ 0 ∷ 2 ∷ 2 ∷ []
nestings_of_bodies = refl

abbrev no : expressions.Expr
no = expressions.Not (Const true)

meanings : map piece_meant (OneWritten once ∷ IfWritten (codes "i") (once ∷ []) None ∷ IfWritten (codes "i") (once ∷ []) (Some (twice ∷ once ∷ [])) ∷ [])
    ≡ trees.One (sets (codes "a") no) ∷ trees.If (codes "i") (sets (codes "a") no ∷ []) []
    ∷ trees.If (codes "i") (sets (codes "a") no ∷ []) (sets (codes "b") no ∷ sets (codes "a") no ∷ []) ∷ []
meanings = refl

-- ---- a whole text

abbrev text : List ℕ
text = codes "static int s = 0; int O_B; int react(void) { int i; int g; i = s; if (i) { g = !i; } else { g = 1; } if (i) { } O_B = g; return i; }"

abbrev written : WrittenProgram
written = record {
  states = record { name = codes "s"; init = false } ∷ [];
  globals = codes "O_B" ∷ [];
  locals = codes "i" ∷ codes "g" ∷ [];
  body = OneWritten (wrote (codes "i") (Word (codes "s")))
      ∷ IfWritten (codes "i") (wrote (codes "g") (Not (Word (codes "i"))) ∷ []) (Some (wrote (codes "g") (Bit true) ∷ []))
      ∷ IfWritten (codes "i") [] None
      ∷ OneWritten (wrote (codes "O_B") (Word (codes "g"))) ∷ [];
  answer = Word (codes "i");
}

abbrev program : Program
program = record {
  states = record { name = codes "s"; init = false } ∷ [];
  globals = codes "O_B" ∷ [];
  locals = codes "i" ∷ codes "g" ∷ [];
  body = trees.One (sets (codes "i") (Name (codes "s")))
      ∷ trees.If (codes "i") (sets (codes "g") (expressions.Not (Name (codes "i"))) ∷ []) (sets (codes "g") (Const true) ∷ [])
      ∷ trees.If (codes "i") [] []
      ∷ trees.One (sets (codes "O_B") (Name (codes "g"))) ∷ [];
  answer = Name (codes "i");
}

spelled : SpellsText written (kinds text)
spelled = record {
  front = Static ∷ Int ∷ Named (codes "s") ∷ Equals ∷ Zero ∷ Semicolon ∷ [];
  back = Int ∷ Named (codes "O_B") ∷ Semicolon ∷ Int ∷ React ∷ LeftParenthesis ∷ Void ∷ RightParenthesis ∷ LeftBrace ∷ Int ∷ Named (codes "i")
      ∷ Semicolon ∷ Int ∷ Named (codes "g") ∷ Semicolon ∷ Named (codes "i") ∷ Equals ∷ Named (codes "s") ∷ Semicolon ∷ If ∷ LeftParenthesis
      ∷ Named (codes "i") ∷ RightParenthesis ∷ LeftBrace ∷ Named (codes "g") ∷ Equals ∷ Bang ∷ Named (codes "i") ∷ Semicolon ∷ RightBrace ∷ Else
      ∷ LeftBrace ∷ Named (codes "g") ∷ Equals ∷ One ∷ Semicolon ∷ RightBrace ∷ If ∷ LeftParenthesis ∷ Named (codes "i") ∷ RightParenthesis
      ∷ LeftBrace ∷ RightBrace ∷ Named (codes "O_B") ∷ Equals ∷ Named (codes "g") ∷ Semicolon ∷ Return ∷ Named (codes "i") ∷ Semicolon ∷ RightBrace
      ∷ [];
  cut = refl;
  first = record {
    front = Static ∷ Int ∷ Named (codes "s") ∷ Equals ∷ Zero ∷ Semicolon ∷ [];
    back = [];
    cut = refl;
    first = record {
      token = Static;
      value = tt;
      rest = Int ∷ Named (codes "s") ∷ Equals ∷ Zero ∷ Semicolon ∷ [];
      cut = refl;
      passes = refl;
      behind = record {
        token = Int;
        value = tt;
        rest = Named (codes "s") ∷ Equals ∷ Zero ∷ Semicolon ∷ [];
        cut = refl;
        passes = refl;
        behind = record {
          front = Named (codes "s") ∷ [];
          back = Equals ∷ Zero ∷ Semicolon ∷ [];
          cut = refl;
          first = record { token = Named (codes "s"); only = refl; passes = refl };
          second = record {
            token = Equals;
            value = tt;
            rest = Zero ∷ Semicolon ∷ [];
            cut = refl;
            passes = refl;
            behind = record {
              front = Zero ∷ [];
              back = Semicolon ∷ [];
              cut = refl;
              first = record { token = Zero; only = refl; passes = refl };
              second = record { token = Semicolon; only = refl; passes = refl };
            };
          };
        };
      };
    };
    second = refl;
  };
  second = record {
    front = Int ∷ Named (codes "O_B") ∷ Semicolon ∷ Int ∷ React ∷ [];
    back = LeftParenthesis ∷ Void ∷ RightParenthesis ∷ LeftBrace ∷ Int ∷ Named (codes "i") ∷ Semicolon ∷ Int ∷ Named (codes "g") ∷ Semicolon
        ∷ Named (codes "i") ∷ Equals ∷ Named (codes "s") ∷ Semicolon ∷ If ∷ LeftParenthesis ∷ Named (codes "i") ∷ RightParenthesis ∷ LeftBrace
        ∷ Named (codes "g") ∷ Equals ∷ Bang ∷ Named (codes "i") ∷ Semicolon ∷ RightBrace ∷ Else ∷ LeftBrace ∷ Named (codes "g") ∷ Equals ∷ One
        ∷ Semicolon ∷ RightBrace ∷ If ∷ LeftParenthesis ∷ Named (codes "i") ∷ RightParenthesis ∷ LeftBrace ∷ RightBrace ∷ Named (codes "O_B")
        ∷ Equals ∷ Named (codes "g") ∷ Semicolon ∷ Return ∷ Named (codes "i") ∷ Semicolon ∷ RightBrace ∷ [];
    cut = refl;
    first = record {
      front = Int ∷ Named (codes "O_B") ∷ Semicolon ∷ [];
      back = Int ∷ React ∷ [];
      cut = refl;
      first = record {
        token = Int;
        value = tt;
        rest = Named (codes "O_B") ∷ Semicolon ∷ [];
        cut = refl;
        passes = refl;
        behind = record {
          front = Named (codes "O_B") ∷ [];
          back = Semicolon ∷ [];
          cut = refl;
          first = record { token = Named (codes "O_B"); only = refl; passes = refl };
          second = record { token = Semicolon; only = refl; passes = refl };
        };
      };
      second = record {
        token = Int;
        value = tt;
        rest = React ∷ [];
        cut = refl;
        passes = refl;
        behind = record { token = React; only = refl; passes = refl };
      };
    };
    second = record {
      token = LeftParenthesis;
      value = tt;
      rest = Void ∷ RightParenthesis ∷ LeftBrace ∷ Int ∷ Named (codes "i") ∷ Semicolon ∷ Int ∷ Named (codes "g") ∷ Semicolon ∷ Named (codes "i")
          ∷ Equals ∷ Named (codes "s") ∷ Semicolon ∷ If ∷ LeftParenthesis ∷ Named (codes "i") ∷ RightParenthesis ∷ LeftBrace ∷ Named (codes "g")
          ∷ Equals ∷ Bang ∷ Named (codes "i") ∷ Semicolon ∷ RightBrace ∷ Else ∷ LeftBrace ∷ Named (codes "g") ∷ Equals ∷ One ∷ Semicolon
          ∷ RightBrace ∷ If ∷ LeftParenthesis ∷ Named (codes "i") ∷ RightParenthesis ∷ LeftBrace ∷ RightBrace ∷ Named (codes "O_B") ∷ Equals
          ∷ Named (codes "g") ∷ Semicolon ∷ Return ∷ Named (codes "i") ∷ Semicolon ∷ RightBrace ∷ [];
      cut = refl;
      passes = refl;
      behind = record {
        token = Void;
        value = tt;
        rest = RightParenthesis ∷ LeftBrace ∷ Int ∷ Named (codes "i") ∷ Semicolon ∷ Int ∷ Named (codes "g") ∷ Semicolon ∷ Named (codes "i")
            ∷ Equals ∷ Named (codes "s") ∷ Semicolon ∷ If ∷ LeftParenthesis ∷ Named (codes "i") ∷ RightParenthesis ∷ LeftBrace ∷ Named (codes "g")
            ∷ Equals ∷ Bang ∷ Named (codes "i") ∷ Semicolon ∷ RightBrace ∷ Else ∷ LeftBrace ∷ Named (codes "g") ∷ Equals ∷ One ∷ Semicolon
            ∷ RightBrace ∷ If ∷ LeftParenthesis ∷ Named (codes "i") ∷ RightParenthesis ∷ LeftBrace ∷ RightBrace ∷ Named (codes "O_B") ∷ Equals
            ∷ Named (codes "g") ∷ Semicolon ∷ Return ∷ Named (codes "i") ∷ Semicolon ∷ RightBrace ∷ [];
        cut = refl;
        passes = refl;
        behind = record {
          token = RightParenthesis;
          value = tt;
          rest = LeftBrace ∷ Int ∷ Named (codes "i") ∷ Semicolon ∷ Int ∷ Named (codes "g") ∷ Semicolon ∷ Named (codes "i") ∷ Equals
              ∷ Named (codes "s") ∷ Semicolon ∷ If ∷ LeftParenthesis ∷ Named (codes "i") ∷ RightParenthesis ∷ LeftBrace ∷ Named (codes "g")
              ∷ Equals ∷ Bang ∷ Named (codes "i") ∷ Semicolon ∷ RightBrace ∷ Else ∷ LeftBrace ∷ Named (codes "g") ∷ Equals ∷ One ∷ Semicolon
              ∷ RightBrace ∷ If ∷ LeftParenthesis ∷ Named (codes "i") ∷ RightParenthesis ∷ LeftBrace ∷ RightBrace ∷ Named (codes "O_B") ∷ Equals
              ∷ Named (codes "g") ∷ Semicolon ∷ Return ∷ Named (codes "i") ∷ Semicolon ∷ RightBrace ∷ [];
          cut = refl;
          passes = refl;
          behind = record {
            token = LeftBrace;
            value = tt;
            rest = Int ∷ Named (codes "i") ∷ Semicolon ∷ Int ∷ Named (codes "g") ∷ Semicolon ∷ Named (codes "i") ∷ Equals ∷ Named (codes "s")
                ∷ Semicolon ∷ If ∷ LeftParenthesis ∷ Named (codes "i") ∷ RightParenthesis ∷ LeftBrace ∷ Named (codes "g") ∷ Equals ∷ Bang
                ∷ Named (codes "i") ∷ Semicolon ∷ RightBrace ∷ Else ∷ LeftBrace ∷ Named (codes "g") ∷ Equals ∷ One ∷ Semicolon ∷ RightBrace ∷ If
                ∷ LeftParenthesis ∷ Named (codes "i") ∷ RightParenthesis ∷ LeftBrace ∷ RightBrace ∷ Named (codes "O_B") ∷ Equals
                ∷ Named (codes "g") ∷ Semicolon ∷ Return ∷ Named (codes "i") ∷ Semicolon ∷ RightBrace ∷ [];
            cut = refl;
            passes = refl;
            behind = record {
              front = Int ∷ Named (codes "i") ∷ Semicolon ∷ Int ∷ Named (codes "g") ∷ Semicolon ∷ [];
              back = Named (codes "i") ∷ Equals ∷ Named (codes "s") ∷ Semicolon ∷ If ∷ LeftParenthesis ∷ Named (codes "i") ∷ RightParenthesis
                  ∷ LeftBrace ∷ Named (codes "g") ∷ Equals ∷ Bang ∷ Named (codes "i") ∷ Semicolon ∷ RightBrace ∷ Else ∷ LeftBrace
                  ∷ Named (codes "g") ∷ Equals ∷ One ∷ Semicolon ∷ RightBrace ∷ If ∷ LeftParenthesis ∷ Named (codes "i") ∷ RightParenthesis
                  ∷ LeftBrace ∷ RightBrace ∷ Named (codes "O_B") ∷ Equals ∷ Named (codes "g") ∷ Semicolon ∷ Return ∷ Named (codes "i") ∷ Semicolon
                  ∷ RightBrace ∷ [];
              cut = refl;
              first = record {
                front = Int ∷ Named (codes "i") ∷ Semicolon ∷ [];
                back = Int ∷ Named (codes "g") ∷ Semicolon ∷ [];
                cut = refl;
                first = record {
                  token = Int;
                  value = tt;
                  rest = Named (codes "i") ∷ Semicolon ∷ [];
                  cut = refl;
                  passes = refl;
                  behind = record {
                    front = Named (codes "i") ∷ [];
                    back = Semicolon ∷ [];
                    cut = refl;
                    first = record {
                      token = Named (codes "i");
                      only = refl;
                      passes = refl;
                    };
                    second = record {
                      token = Semicolon;
                      only = refl;
                      passes = refl;
                    };
                  };
                };
                second = record {
                  front = Int ∷ Named (codes "g") ∷ Semicolon ∷ [];
                  back = [];
                  cut = refl;
                  first = record {
                    token = Int;
                    value = tt;
                    rest = Named (codes "g") ∷ Semicolon ∷ [];
                    cut = refl;
                    passes = refl;
                    behind = record {
                      front = Named (codes "g") ∷ [];
                      back = Semicolon ∷ [];
                      cut = refl;
                      first = record {
                        token = Named (codes "g");
                        only = refl;
                        passes = refl;
                      };
                      second = record {
                        token = Semicolon;
                        only = refl;
                        passes = refl;
                      };
                    };
                  };
                  second = refl;
                };
              };
              second = record {
                front = Named (codes "i") ∷ Equals ∷ Named (codes "s") ∷ Semicolon ∷ If ∷ LeftParenthesis ∷ Named (codes "i") ∷ RightParenthesis
                    ∷ LeftBrace ∷ Named (codes "g") ∷ Equals ∷ Bang ∷ Named (codes "i") ∷ Semicolon ∷ RightBrace ∷ Else ∷ LeftBrace
                    ∷ Named (codes "g") ∷ Equals ∷ One ∷ Semicolon ∷ RightBrace ∷ If ∷ LeftParenthesis ∷ Named (codes "i") ∷ RightParenthesis
                    ∷ LeftBrace ∷ RightBrace ∷ Named (codes "O_B") ∷ Equals ∷ Named (codes "g") ∷ Semicolon ∷ [];
                back = Return ∷ Named (codes "i") ∷ Semicolon ∷ RightBrace ∷ [];
                cut = refl;
                first = record {
                  front = Named (codes "i") ∷ Equals ∷ Named (codes "s") ∷ Semicolon ∷ [];
                  back = If ∷ LeftParenthesis ∷ Named (codes "i") ∷ RightParenthesis ∷ LeftBrace ∷ Named (codes "g") ∷ Equals ∷ Bang
                      ∷ Named (codes "i") ∷ Semicolon ∷ RightBrace ∷ Else ∷ LeftBrace ∷ Named (codes "g") ∷ Equals ∷ One ∷ Semicolon ∷ RightBrace
                      ∷ If ∷ LeftParenthesis ∷ Named (codes "i") ∷ RightParenthesis ∷ LeftBrace ∷ RightBrace ∷ Named (codes "O_B") ∷ Equals
                      ∷ Named (codes "g") ∷ Semicolon ∷ [];
                  cut = refl;
                  first = record {
                    front = Named (codes "i") ∷ [];
                    back = Equals ∷ Named (codes "s") ∷ Semicolon ∷ [];
                    cut = refl;
                    first = record {
                      token = Named (codes "i");
                      only = refl;
                      passes = refl;
                    };
                    second = record {
                      token = Equals;
                      value = tt;
                      rest = Named (codes "s") ∷ Semicolon ∷ [];
                      cut = refl;
                      passes = refl;
                      behind = record {
                        front = Named (codes "s") ∷ [];
                        back = Semicolon ∷ [];
                        cut = refl;
                        first = record {
                          token = Named (codes "s");
                          only = refl;
                          passes = refl;
                        };
                        second = record {
                          token = Semicolon;
                          only = refl;
                          passes = refl;
                        };
                      };
                    };
                  };
                  second = record {
                    front = If ∷ LeftParenthesis ∷ Named (codes "i") ∷ RightParenthesis ∷ LeftBrace ∷ Named (codes "g") ∷ Equals ∷ Bang
                        ∷ Named (codes "i") ∷ Semicolon ∷ RightBrace ∷ Else ∷ LeftBrace ∷ Named (codes "g") ∷ Equals ∷ One ∷ Semicolon ∷ RightBrace
                        ∷ [];
                    back = If ∷ LeftParenthesis ∷ Named (codes "i") ∷ RightParenthesis ∷ LeftBrace ∷ RightBrace ∷ Named (codes "O_B") ∷ Equals
                        ∷ Named (codes "g") ∷ Semicolon ∷ [];
                    cut = refl;
                    first = record {
                      token = If;
                      value = tt;
                      rest = LeftParenthesis ∷ Named (codes "i") ∷ RightParenthesis ∷ LeftBrace ∷ Named (codes "g") ∷ Equals ∷ Bang
                          ∷ Named (codes "i") ∷ Semicolon ∷ RightBrace ∷ Else ∷ LeftBrace ∷ Named (codes "g") ∷ Equals ∷ One ∷ Semicolon
                          ∷ RightBrace ∷ [];
                      cut = refl;
                      passes = refl;
                      behind = record {
                        token = LeftParenthesis;
                        value = tt;
                        rest = Named (codes "i") ∷ RightParenthesis ∷ LeftBrace ∷ Named (codes "g") ∷ Equals ∷ Bang ∷ Named (codes "i") ∷ Semicolon
                            ∷ RightBrace ∷ Else ∷ LeftBrace ∷ Named (codes "g") ∷ Equals ∷ One ∷ Semicolon ∷ RightBrace ∷ [];
                        cut = refl;
                        passes = refl;
                        behind = record {
                          front = Named (codes "i") ∷ [];
                          back = RightParenthesis ∷ LeftBrace ∷ Named (codes "g") ∷ Equals ∷ Bang ∷ Named (codes "i") ∷ Semicolon ∷ RightBrace
                              ∷ Else ∷ LeftBrace ∷ Named (codes "g") ∷ Equals ∷ One ∷ Semicolon ∷ RightBrace ∷ [];
                          cut = refl;
                          first = record {
                            token = Named (codes "i");
                            only = refl;
                            passes = refl;
                          };
                          second = record {
                            token = RightParenthesis;
                            value = tt;
                            rest = LeftBrace ∷ Named (codes "g") ∷ Equals ∷ Bang ∷ Named (codes "i") ∷ Semicolon ∷ RightBrace ∷ Else ∷ LeftBrace
                                ∷ Named (codes "g") ∷ Equals ∷ One ∷ Semicolon ∷ RightBrace ∷ [];
                            cut = refl;
                            passes = refl;
                            behind = record {
                              front = LeftBrace ∷ Named (codes "g") ∷ Equals ∷ Bang ∷ Named (codes "i") ∷ Semicolon ∷ RightBrace ∷ [];
                              back = Else ∷ LeftBrace ∷ Named (codes "g") ∷ Equals ∷ One ∷ Semicolon ∷ RightBrace ∷ [];
                              cut = refl;
                              first = record {
                                token = LeftBrace;
                                value = tt;
                                rest = Named (codes "g") ∷ Equals ∷ Bang ∷ Named (codes "i") ∷ Semicolon ∷ RightBrace ∷ [];
                                cut = refl;
                                passes = refl;
                                behind = record {
                                  front = Named (codes "g") ∷ Equals ∷ Bang ∷ Named (codes "i") ∷ Semicolon ∷ [];
                                  back = RightBrace ∷ [];
                                  cut = refl;
                                  first = record {
                                    front = Named (codes "g") ∷ Equals ∷ Bang ∷ Named (codes "i") ∷ Semicolon ∷ [];
                                    back = [];
                                    cut = refl;
                                    first = record {
                                      front = Named (codes "g") ∷ [];
                                      back = Equals ∷ Bang ∷ Named (codes "i") ∷ Semicolon ∷ [];
                                      cut = refl;
                                      first = record {
                                        token = Named (codes "g");
                                        only = refl;
                                        passes = refl;
                                      };
                                      second = record {
                                        token = Equals;
                                        value = tt;
                                        rest = Bang ∷ Named (codes "i") ∷ Semicolon ∷ [];
                                        cut = refl;
                                        passes = refl;
                                        behind = record {
                                          front = Bang ∷ Named (codes "i") ∷ [];
                                          back = Semicolon ∷ [];
                                          cut = refl;
                                          first = record {
                                            token = Bang;
                                            value = tt;
                                            rest = Named (codes "i") ∷ [];
                                            cut = refl;
                                            passes = refl;
                                            behind = record {
                                              token = Named (codes "i");
                                              only = refl;
                                              passes = refl;
                                            };
                                          };
                                          second = record {
                                            token = Semicolon;
                                            only = refl;
                                            passes = refl;
                                          };
                                        };
                                      };
                                    };
                                    second = refl;
                                  };
                                  second = record {
                                    token = RightBrace;
                                    only = refl;
                                    passes = refl;
                                  };
                                };
                              };
                              second = record {
                                token = Else;
                                value = tt;
                                rest = LeftBrace ∷ Named (codes "g") ∷ Equals ∷ One ∷ Semicolon ∷ RightBrace ∷ [];
                                cut = refl;
                                passes = refl;
                                behind = record {
                                  token = LeftBrace;
                                  value = tt;
                                  rest = Named (codes "g") ∷ Equals ∷ One ∷ Semicolon ∷ RightBrace ∷ [];
                                  cut = refl;
                                  passes = refl;
                                  behind = record {
                                    front = Named (codes "g") ∷ Equals ∷ One ∷ Semicolon ∷ [];
                                    back = RightBrace ∷ [];
                                    cut = refl;
                                    first = record {
                                      front = Named (codes "g") ∷ Equals ∷ One ∷ Semicolon ∷ [];
                                      back = [];
                                      cut = refl;
                                      first = record {
                                        front = Named (codes "g") ∷ [];
                                        back = Equals ∷ One ∷ Semicolon ∷ [];
                                        cut = refl;
                                        first = record {
                                          token = Named (codes "g");
                                          only = refl;
                                          passes = refl;
                                        };
                                        second = record {
                                          token = Equals;
                                          value = tt;
                                          rest = One ∷ Semicolon ∷ [];
                                          cut = refl;
                                          passes = refl;
                                          behind = record {
                                            front = One ∷ [];
                                            back = Semicolon ∷ [];
                                            cut = refl;
                                            first = record {
                                              token = One;
                                              only = refl;
                                              passes = refl;
                                            };
                                            second = record {
                                              token = Semicolon;
                                              only = refl;
                                              passes = refl;
                                            };
                                          };
                                        };
                                      };
                                      second = refl;
                                    };
                                    second = record {
                                      token = RightBrace;
                                      only = refl;
                                      passes = refl;
                                    };
                                  };
                                };
                              };
                            };
                          };
                        };
                      };
                    };
                    second = record {
                      front = If ∷ LeftParenthesis ∷ Named (codes "i") ∷ RightParenthesis ∷ LeftBrace ∷ RightBrace ∷ [];
                      back = Named (codes "O_B") ∷ Equals ∷ Named (codes "g") ∷ Semicolon ∷ [];
                      cut = refl;
                      first = record {
                        token = If;
                        value = tt;
                        rest = LeftParenthesis ∷ Named (codes "i") ∷ RightParenthesis ∷ LeftBrace ∷ RightBrace ∷ [];
                        cut = refl;
                        passes = refl;
                        behind = record {
                          token = LeftParenthesis;
                          value = tt;
                          rest = Named (codes "i") ∷ RightParenthesis ∷ LeftBrace ∷ RightBrace ∷ [];
                          cut = refl;
                          passes = refl;
                          behind = record {
                            front = Named (codes "i") ∷ [];
                            back = RightParenthesis ∷ LeftBrace ∷ RightBrace ∷ [];
                            cut = refl;
                            first = record {
                              token = Named (codes "i");
                              only = refl;
                              passes = refl;
                            };
                            second = record {
                              token = RightParenthesis;
                              value = tt;
                              rest = LeftBrace ∷ RightBrace ∷ [];
                              cut = refl;
                              passes = refl;
                              behind = record {
                                front = LeftBrace ∷ RightBrace ∷ [];
                                back = [];
                                cut = refl;
                                first = record {
                                  token = LeftBrace;
                                  value = tt;
                                  rest = RightBrace ∷ [];
                                  cut = refl;
                                  passes = refl;
                                  behind = record {
                                    front = [];
                                    back = RightBrace ∷ [];
                                    cut = refl;
                                    first = refl;
                                    second = record {
                                      token = RightBrace;
                                      only = refl;
                                      passes = refl;
                                    };
                                  };
                                };
                                second = refl;
                              };
                            };
                          };
                        };
                      };
                      second = record {
                        front = Named (codes "O_B") ∷ Equals ∷ Named (codes "g") ∷ Semicolon ∷ [];
                        back = [];
                        cut = refl;
                        first = record {
                          front = Named (codes "O_B") ∷ [];
                          back = Equals ∷ Named (codes "g") ∷ Semicolon ∷ [];
                          cut = refl;
                          first = record {
                            token = Named (codes "O_B");
                            only = refl;
                            passes = refl;
                          };
                          second = record {
                            token = Equals;
                            value = tt;
                            rest = Named (codes "g") ∷ Semicolon ∷ [];
                            cut = refl;
                            passes = refl;
                            behind = record {
                              front = Named (codes "g") ∷ [];
                              back = Semicolon ∷ [];
                              cut = refl;
                              first = record {
                                token = Named (codes "g");
                                only = refl;
                                passes = refl;
                              };
                              second = record {
                                token = Semicolon;
                                only = refl;
                                passes = refl;
                              };
                            };
                          };
                        };
                        second = refl;
                      };
                    };
                  };
                };
                second = record {
                  token = Return;
                  value = tt;
                  rest = Named (codes "i") ∷ Semicolon ∷ RightBrace ∷ [];
                  cut = refl;
                  passes = refl;
                  behind = record {
                    front = Named (codes "i") ∷ [];
                    back = Semicolon ∷ RightBrace ∷ [];
                    cut = refl;
                    first = record {
                      token = Named (codes "i");
                      only = refl;
                      passes = refl;
                    };
                    second = record {
                      token = Semicolon;
                      value = tt;
                      rest = RightBrace ∷ [];
                      cut = refl;
                      passes = refl;
                      behind = record {
                        token = RightBrace;
                        only = refl;
                        passes = refl;
                      };
                    };
                  };
                };
              };
            };
          };
        };
      };
    };
  };
}

described : Describes text program
described = record { written = written; spelled = (spelled, lit≤ tt); means = refl; names_fit = refl }

nestings_of_texts : map text_nesting (written ∷ record written { answer = Round (Not (Bit false)) } ∷ record written { body = [] } ∷ []) ≡ 1 ∷ 2 ∷ 0 ∷ []
nestings_of_texts = refl

what_it_describes : (text : List ℕ) (p : Program) (h : Describes text p) → program_meant h.written ≡ p
what_it_describes text p h = h.means

too_deep : (text : List ℕ) (p : Program) (h : Describes text p) → 200 < text_nesting h.written → ⊥
too_deep text p h deep = let low = h.spelled.1 in omega (arith, low, deep)

names_that_do_not_fit : (text : List ℕ) (p : Program) → name_fault p ≡ Some (Twice (codes "x")) → Describes text p → ⊥
names_that_do_not_fit text p faulty h = let fit = h.names_fit in cc

-- two calls of three assignments
all_counts : count_of program (Event [] ∷ Reset ∷ Event [] ∷ []) ≡ 6
all_counts = refl
