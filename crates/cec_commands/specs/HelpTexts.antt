-- To believe: the list of the commands.
use Rattle.std.specs.Prelude.{ℕ, List, [], ◌∷◌, codes}
use Rattle.std.specs.List.{concat}

abbrev pub help_text : List ℕ
help_text =
    concat (codes "cec blif [--main M] [--pick P] [--encode] FILE\n"
    ∷ codes "cec c [--main M] [--pick P] [--guard] FILE\n"
    ∷ codes "cec verilog [--main M] [--pick P] FILE\n"
    ∷ codes "cec grc [--main M] FILE\n"
    ∷ codes "cec check [--main M] FILE\n"
    ∷ codes "cec run --via blif|c|guard|verilog|tri [--main M] [--pick P] [--encode] FILE TRACE\n"
    ∷ codes "cec exec --via blif|c|guard|verilog TEXT TRACE\n"
    ∷ codes "cec gen --start N --branches N [--run N]\n" ∷ [])
