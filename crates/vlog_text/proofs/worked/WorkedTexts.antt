-- Written by hand: a worked text: its tokens, what they spell, and the module that it describes; and what describes none.
use Rattle.std.proofs.Common.{◌≡◌, ◌<◌, ℕ, true, false, List, [], ◌∷◌, ◌++◌, Some, map, codes, refl, arith, lit≤}
use Rattle.net_expressions.specs.Grammar.{Word, Bit, Not, Round, Written}
use Rattle.net_expressions.specs.Trees.{Name}
use Rattle.net_expressions.specs.Trees as trees
use Rattle.vlog_text.specs.Trees.{Sort, Input, Output, Reg, Declaration, Assign, Source, VerilogModule}
use Rattle.vlog_text.specs.Tokens.{ModuleWord, InitialWord, AssignWord, AlwaysWord, PosedgeWord, BeginWord, EndWord, EndmoduleWord}
use Rattle.vlog_text.specs.Tokens.{LeftParenthesis, RightParenthesis, Comma, Semicolon, Equals, At, Tilde, Becomes, One, Declares, Named, kinds}
use Rattle.vlog_text.specs.Grammar.{SpellsPorts, SpellsText, assigns_nesting, assign_meant, source_meant}
use Rattle.vlog_text.specs.Machine.{driven_names}
use Rattle.vlog_text.specs.Names.{Twice, name_fault}
use Rattle.vlog_text.specs.Texts.{Describes, module_said, nesting_limit}

abbrev text : List ℕ
text = codes "module m(clk, i_A, o_O); input clk; input i_A; output o_O; reg s; initial s = 1'b1; "
    ++ codes "assign o_O = ~s; always @(posedge clk) begin s <= i_A; end endmodule"

abbrev declared : Sort → List ℕ → Declaration
declared sort name = record { sort = sort; name = name }

abbrev written : Source Written
written = record {
  name = codes "m";
  ports = codes "clk" ∷ codes "i_A" ∷ codes "o_O" ∷ [];
  declarations = declared Input (codes "clk") ∷ declared Input (codes "i_A") ∷ declared Output (codes "o_O") ∷ declared Reg (codes "s") ∷ [];
  initials = record { name = codes "s"; value = true } ∷ [];
  assigns = record { target = codes "o_O"; value = Not (Word (codes "s")) } ∷ [];
  clock = codes "clk";
  nexts = record { target = codes "s"; source = codes "i_A" } ∷ [];
}

abbrev design : VerilogModule
design = record {
  name = codes "m";
  inputs = codes "clk" ∷ codes "i_A" ∷ [];
  outputs = codes "o_O" ∷ [];
  registers = record { name = codes "s"; init = true; from = codes "i_A" } ∷ [];
  wires = [];
  assigns = record { target = codes "o_O"; value = trees.Not (Name (codes "s")) } ∷ [];
}

its_tokens : kinds text
    ≡ ModuleWord ∷ Named (codes "m") ∷ LeftParenthesis ∷ Named (codes "clk") ∷ Comma ∷ Named (codes "i_A") ∷ Comma ∷ Named (codes "o_O") ∷ RightParenthesis
    ∷ Semicolon ∷ Declares Input ∷ Named (codes "clk") ∷ Semicolon ∷ Declares Input ∷ Named (codes "i_A") ∷ Semicolon ∷ Declares Output ∷ Named (codes "o_O")
    ∷ Semicolon ∷ Declares Reg ∷ Named (codes "s") ∷ Semicolon ∷ InitialWord ∷ Named (codes "s") ∷ Equals ∷ One ∷ Semicolon ∷ AssignWord ∷ Named (codes "o_O")
    ∷ Equals ∷ Tilde ∷ Named (codes "s") ∷ Semicolon ∷ AlwaysWord ∷ At ∷ LeftParenthesis ∷ PosedgeWord ∷ Named (codes "clk") ∷ RightParenthesis ∷ BeginWord
    ∷ Named (codes "s") ∷ Becomes ∷ Named (codes "i_A") ∷ Semicolon ∷ EndWord ∷ EndmoduleWord ∷ []
its_tokens = refl

spelled : SpellsText written (kinds text)
spelled = record {
  front = ModuleWord ∷ Named (codes "m") ∷ LeftParenthesis ∷ Named (codes "clk") ∷ Comma ∷ Named (codes "i_A") ∷ Comma ∷ Named (codes "o_O")
      ∷ RightParenthesis ∷ Semicolon ∷ [];
  back = Declares Input ∷ Named (codes "clk") ∷ Semicolon ∷ Declares Input ∷ Named (codes "i_A") ∷ Semicolon ∷ Declares Output ∷ Named (codes "o_O")
      ∷ Semicolon ∷ Declares Reg ∷ Named (codes "s") ∷ Semicolon ∷ InitialWord ∷ Named (codes "s") ∷ Equals ∷ One ∷ Semicolon ∷ AssignWord
      ∷ Named (codes "o_O") ∷ Equals ∷ Tilde ∷ Named (codes "s") ∷ Semicolon ∷ AlwaysWord ∷ At ∷ LeftParenthesis ∷ PosedgeWord ∷ Named (codes "clk")
      ∷ RightParenthesis ∷ BeginWord ∷ Named (codes "s") ∷ Becomes ∷ Named (codes "i_A") ∷ Semicolon ∷ EndWord ∷ EndmoduleWord ∷ [];
  cut = refl;
  first = record {
    token = ModuleWord;
    value = tt;
    rest = Named (codes "m") ∷ LeftParenthesis ∷ Named (codes "clk") ∷ Comma ∷ Named (codes "i_A") ∷ Comma ∷ Named (codes "o_O") ∷ RightParenthesis
        ∷ Semicolon ∷ [];
    cut = refl;
    passes = refl;
    behind = record {
      front = Named (codes "m") ∷ [];
      back = LeftParenthesis ∷ Named (codes "clk") ∷ Comma ∷ Named (codes "i_A") ∷ Comma ∷ Named (codes "o_O") ∷ RightParenthesis ∷ Semicolon ∷ [];
      cut = refl;
      first = record { token = Named (codes "m"); only = refl; passes = refl };
      second = record {
        token = LeftParenthesis;
        value = tt;
        rest = Named (codes "clk") ∷ Comma ∷ Named (codes "i_A") ∷ Comma ∷ Named (codes "o_O") ∷ RightParenthesis ∷ Semicolon ∷ [];
        cut = refl;
        passes = refl;
        behind = record {
          front = Named (codes "clk") ∷ Comma ∷ Named (codes "i_A") ∷ Comma ∷ Named (codes "o_O") ∷ [];
          back = RightParenthesis ∷ Semicolon ∷ [];
          cut = refl;
          first = record {
            front = Named (codes "clk") ∷ [];
            back = Comma ∷ Named (codes "i_A") ∷ Comma ∷ Named (codes "o_O") ∷ [];
            cut = refl;
            first = record { token = Named (codes "clk"); only = refl; passes = refl };
            second = record {
              front = Comma ∷ Named (codes "i_A") ∷ [];
              back = Comma ∷ Named (codes "o_O") ∷ [];
              cut = refl;
              first = record {
                token = Comma;
                value = tt;
                rest = Named (codes "i_A") ∷ [];
                cut = refl;
                passes = refl;
                behind = record {
                  token = Named (codes "i_A");
                  only = refl;
                  passes = refl;
                };
              };
              second = record {
                front = Comma ∷ Named (codes "o_O") ∷ [];
                back = [];
                cut = refl;
                first = record {
                  token = Comma;
                  value = tt;
                  rest = Named (codes "o_O") ∷ [];
                  cut = refl;
                  passes = refl;
                  behind = record {
                    token = Named (codes "o_O");
                    only = refl;
                    passes = refl;
                  };
                };
                second = refl;
              };
            };
          };
          second = record {
            token = RightParenthesis;
            value = tt;
            rest = Semicolon ∷ [];
            cut = refl;
            passes = refl;
            behind = record { token = Semicolon; only = refl; passes = refl };
          };
        };
      };
    };
  };
  second = record {
    front = Declares Input ∷ Named (codes "clk") ∷ Semicolon ∷ Declares Input ∷ Named (codes "i_A") ∷ Semicolon ∷ Declares Output ∷ Named (codes "o_O")
        ∷ Semicolon ∷ Declares Reg ∷ Named (codes "s") ∷ Semicolon ∷ [];
    back = InitialWord ∷ Named (codes "s") ∷ Equals ∷ One ∷ Semicolon ∷ AssignWord ∷ Named (codes "o_O") ∷ Equals ∷ Tilde ∷ Named (codes "s") ∷ Semicolon
        ∷ AlwaysWord ∷ At ∷ LeftParenthesis ∷ PosedgeWord ∷ Named (codes "clk") ∷ RightParenthesis ∷ BeginWord ∷ Named (codes "s") ∷ Becomes
        ∷ Named (codes "i_A") ∷ Semicolon ∷ EndWord ∷ EndmoduleWord ∷ [];
    cut = refl;
    first = record {
      front = Declares Input ∷ Named (codes "clk") ∷ Semicolon ∷ [];
      back = Declares Input ∷ Named (codes "i_A") ∷ Semicolon ∷ Declares Output ∷ Named (codes "o_O") ∷ Semicolon ∷ Declares Reg ∷ Named (codes "s")
          ∷ Semicolon ∷ [];
      cut = refl;
      first = record {
        front = Declares Input ∷ [];
        back = Named (codes "clk") ∷ Semicolon ∷ [];
        cut = refl;
        first = record { token = Declares Input; only = refl; passes = refl };
        second = record {
          front = Named (codes "clk") ∷ [];
          back = Semicolon ∷ [];
          cut = refl;
          first = record { token = Named (codes "clk"); only = refl; passes = refl };
          second = record { token = Semicolon; only = refl; passes = refl };
        };
      };
      second = record {
        front = Declares Input ∷ Named (codes "i_A") ∷ Semicolon ∷ [];
        back = Declares Output ∷ Named (codes "o_O") ∷ Semicolon ∷ Declares Reg ∷ Named (codes "s") ∷ Semicolon ∷ [];
        cut = refl;
        first = record {
          front = Declares Input ∷ [];
          back = Named (codes "i_A") ∷ Semicolon ∷ [];
          cut = refl;
          first = record { token = Declares Input; only = refl; passes = refl };
          second = record {
            front = Named (codes "i_A") ∷ [];
            back = Semicolon ∷ [];
            cut = refl;
            first = record { token = Named (codes "i_A"); only = refl; passes = refl };
            second = record { token = Semicolon; only = refl; passes = refl };
          };
        };
        second = record {
          front = Declares Output ∷ Named (codes "o_O") ∷ Semicolon ∷ [];
          back = Declares Reg ∷ Named (codes "s") ∷ Semicolon ∷ [];
          cut = refl;
          first = record {
            front = Declares Output ∷ [];
            back = Named (codes "o_O") ∷ Semicolon ∷ [];
            cut = refl;
            first = record { token = Declares Output; only = refl; passes = refl };
            second = record {
              front = Named (codes "o_O") ∷ [];
              back = Semicolon ∷ [];
              cut = refl;
              first = record { token = Named (codes "o_O"); only = refl; passes = refl };
              second = record { token = Semicolon; only = refl; passes = refl };
            };
          };
          second = record {
            front = Declares Reg ∷ Named (codes "s") ∷ Semicolon ∷ [];
            back = [];
            cut = refl;
            first = record {
              front = Declares Reg ∷ [];
              back = Named (codes "s") ∷ Semicolon ∷ [];
              cut = refl;
              first = record { token = Declares Reg; only = refl; passes = refl };
              second = record {
                front = Named (codes "s") ∷ [];
                back = Semicolon ∷ [];
                cut = refl;
                first = record {
                  token = Named (codes "s");
                  only = refl;
                  passes = refl;
                };
                second = record { token = Semicolon; only = refl; passes = refl };
              };
            };
            second = refl;
          };
        };
      };
    };
    second = record {
      front = InitialWord ∷ Named (codes "s") ∷ Equals ∷ One ∷ Semicolon ∷ [];
      back = AssignWord ∷ Named (codes "o_O") ∷ Equals ∷ Tilde ∷ Named (codes "s") ∷ Semicolon ∷ AlwaysWord ∷ At ∷ LeftParenthesis ∷ PosedgeWord
          ∷ Named (codes "clk") ∷ RightParenthesis ∷ BeginWord ∷ Named (codes "s") ∷ Becomes ∷ Named (codes "i_A") ∷ Semicolon ∷ EndWord ∷ EndmoduleWord ∷ [];
      cut = refl;
      first = record {
        front = InitialWord ∷ Named (codes "s") ∷ Equals ∷ One ∷ Semicolon ∷ [];
        back = [];
        cut = refl;
        first = record {
          token = InitialWord;
          value = tt;
          rest = Named (codes "s") ∷ Equals ∷ One ∷ Semicolon ∷ [];
          cut = refl;
          passes = refl;
          behind = record {
            front = Named (codes "s") ∷ [];
            back = Equals ∷ One ∷ Semicolon ∷ [];
            cut = refl;
            first = record { token = Named (codes "s"); only = refl; passes = refl };
            second = record {
              token = Equals;
              value = tt;
              rest = One ∷ Semicolon ∷ [];
              cut = refl;
              passes = refl;
              behind = record {
                front = One ∷ [];
                back = Semicolon ∷ [];
                cut = refl;
                first = record { token = One; only = refl; passes = refl };
                second = record { token = Semicolon; only = refl; passes = refl };
              };
            };
          };
        };
        second = refl;
      };
      second = record {
        front = AssignWord ∷ Named (codes "o_O") ∷ Equals ∷ Tilde ∷ Named (codes "s") ∷ Semicolon ∷ [];
        back = AlwaysWord ∷ At ∷ LeftParenthesis ∷ PosedgeWord ∷ Named (codes "clk") ∷ RightParenthesis ∷ BeginWord ∷ Named (codes "s") ∷ Becomes
            ∷ Named (codes "i_A") ∷ Semicolon ∷ EndWord ∷ EndmoduleWord ∷ [];
        cut = refl;
        first = record {
          front = AssignWord ∷ Named (codes "o_O") ∷ Equals ∷ Tilde ∷ Named (codes "s") ∷ Semicolon ∷ [];
          back = [];
          cut = refl;
          first = record {
            token = AssignWord;
            value = tt;
            rest = Named (codes "o_O") ∷ Equals ∷ Tilde ∷ Named (codes "s") ∷ Semicolon ∷ [];
            cut = refl;
            passes = refl;
            behind = record {
              front = Named (codes "o_O") ∷ [];
              back = Equals ∷ Tilde ∷ Named (codes "s") ∷ Semicolon ∷ [];
              cut = refl;
              first = record { token = Named (codes "o_O"); only = refl; passes = refl };
              second = record {
                token = Equals;
                value = tt;
                rest = Tilde ∷ Named (codes "s") ∷ Semicolon ∷ [];
                cut = refl;
                passes = refl;
                behind = record {
                  front = Tilde ∷ Named (codes "s") ∷ [];
                  back = Semicolon ∷ [];
                  cut = refl;
                  first = record {
                    token = Tilde;
                    value = tt;
                    rest = Named (codes "s") ∷ [];
                    cut = refl;
                    passes = refl;
                    behind = record {
                      token = Named (codes "s");
                      only = refl;
                      passes = refl;
                    };
                  };
                  second = record {
                    token = Semicolon;
                    only = refl;
                    passes = refl;
                  };
                };
              };
            };
          };
          second = refl;
        };
        second = record {
          front = AlwaysWord ∷ At ∷ LeftParenthesis ∷ PosedgeWord ∷ Named (codes "clk") ∷ RightParenthesis ∷ BeginWord ∷ [];
          back = Named (codes "s") ∷ Becomes ∷ Named (codes "i_A") ∷ Semicolon ∷ EndWord ∷ EndmoduleWord ∷ [];
          cut = refl;
          first = record {
            token = AlwaysWord;
            value = tt;
            rest = At ∷ LeftParenthesis ∷ PosedgeWord ∷ Named (codes "clk") ∷ RightParenthesis ∷ BeginWord ∷ [];
            cut = refl;
            passes = refl;
            behind = record {
              token = At;
              value = tt;
              rest = LeftParenthesis ∷ PosedgeWord ∷ Named (codes "clk") ∷ RightParenthesis ∷ BeginWord ∷ [];
              cut = refl;
              passes = refl;
              behind = record {
                token = LeftParenthesis;
                value = tt;
                rest = PosedgeWord ∷ Named (codes "clk") ∷ RightParenthesis ∷ BeginWord ∷ [];
                cut = refl;
                passes = refl;
                behind = record {
                  token = PosedgeWord;
                  value = tt;
                  rest = Named (codes "clk") ∷ RightParenthesis ∷ BeginWord ∷ [];
                  cut = refl;
                  passes = refl;
                  behind = record {
                    front = Named (codes "clk") ∷ [];
                    back = RightParenthesis ∷ BeginWord ∷ [];
                    cut = refl;
                    first = record {
                      token = Named (codes "clk");
                      only = refl;
                      passes = refl;
                    };
                    second = record {
                      token = RightParenthesis;
                      value = tt;
                      rest = BeginWord ∷ [];
                      cut = refl;
                      passes = refl;
                      behind = record {
                        token = BeginWord;
                        only = refl;
                        passes = refl;
                      };
                    };
                  };
                };
              };
            };
          };
          second = record {
            front = Named (codes "s") ∷ Becomes ∷ Named (codes "i_A") ∷ Semicolon ∷ [];
            back = EndWord ∷ EndmoduleWord ∷ [];
            cut = refl;
            first = record {
              front = Named (codes "s") ∷ Becomes ∷ Named (codes "i_A") ∷ Semicolon ∷ [];
              back = [];
              cut = refl;
              first = record {
                front = Named (codes "s") ∷ [];
                back = Becomes ∷ Named (codes "i_A") ∷ Semicolon ∷ [];
                cut = refl;
                first = record {
                  token = Named (codes "s");
                  only = refl;
                  passes = refl;
                };
                second = record {
                  token = Becomes;
                  value = tt;
                  rest = Named (codes "i_A") ∷ Semicolon ∷ [];
                  cut = refl;
                  passes = refl;
                  behind = record {
                    front = Named (codes "i_A") ∷ [];
                    back = Semicolon ∷ [];
                    cut = refl;
                    first = record {
                      token = Named (codes "i_A");
                      only = refl;
                      passes = refl;
                    };
                    second = record {
                      token = Semicolon;
                      only = refl;
                      passes = refl;
                    };
                  };
                };
              };
              second = refl;
            };
            second = record {
              token = EndWord;
              value = tt;
              rest = EndmoduleWord ∷ [];
              cut = refl;
              passes = refl;
              behind = record { token = EndmoduleWord; only = refl; passes = refl };
            };
          };
        };
      };
    };
  };
}

described : Describes text design
described = record { written = written; spelled = (spelled, lit≤ tt); means = refl; names_fit = refl }

-- all names but the clock
driven : driven_names design ≡ codes "i_A" ∷ codes "s" ∷ codes "o_O" ∷ []
driven = refl

what_it_describes : (text : List ℕ) (m : VerilogModule) (h : Describes text m) → module_said (source_meant h.written) ≡ m
what_it_describes text m h = h.means

-- a module has a port
no_ports : SpellsPorts [] [] → ⊥
no_ports h = h

-- how deep expressions are nested, in whichever assignment
abbrev deep : Assign Written
deep = record { target = codes "o_O"; value = Round (Not (Bit false)) }

nestings : map assigns_nesting
    ([] ∷ written.assigns ∷ (deep ∷ written.assigns) ∷ (record deep { value = Bit true } ∷ written.assigns) ∷ [])
    ≡ 0 ∷ 1 ∷ 2 ∷ 1 ∷ []
nestings = refl

without_brackets : assign_meant deep ≡ record { target = codes "o_O"; value = trees.Not (trees.Const false) }
without_brackets = refl

as_deep_as_they_may_be : nesting_limit ≡ 200
as_deep_as_they_may_be = refl

too_deep : (text : List ℕ) (m : VerilogModule) (h : Describes text m) → 200 < assigns_nesting h.written.assigns → ⊥
too_deep text m h deep = let low = h.spelled.1 in omega (arith, low, deep)

names_that_do_not_fit : (text : List ℕ) (m : VerilogModule) (h : Describes text m) → name_fault (source_meant h.written) ≡ Some (Twice (codes "x")) → ⊥
names_that_do_not_fit text m h faulty = let fit = h.names_fit in cc
