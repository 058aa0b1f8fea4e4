-- To believe: the list of the commands, and the version.
use Rattle.std.specs.Prelude.{ℕ, List, [], ◌∷◌, codes}
use Rattle.std.specs.List.{concat}
use Rattle.cec_words.specs.declared.common.About.{About}
use Rattle.cec_words.specs.declared.common.About.TheVariants.{Commands, Version}

abbrev pub help_text : List ℕ
help_text =
    concat (codes "cec-opt blif TEXT      writes the optimized circuit of TEXT, a BLIF file, as BLIF\n"
    ∷ codes "cec-opt c TEXT         the same as C\n"
    ∷ codes "cec-opt c --embed NAME TEXT\n"
    ∷ codes "                       the same as embedded C: a header for any number of instances of NAME\n"
    ∷ codes "    --packed           after NAME: one bit for each latch of an instance\n"
    ∷ codes "    --declarations     after NAME: of two files the header NAME.h, with the types and the prototypes\n"
    ∷ codes "    --definitions      after NAME: of two files the other one, NAME.c, which includes NAME.h\n"
    ∷ codes "    --header           after NAME: one header with all of it, as without a word for a file\n"
    ∷ codes "cec-opt verilog TEXT   the same as structural Verilog\n"
    ∷ codes "cec-opt verilog --reset NAME TEXT\n"
    ∷ codes "                       the same as Verilog for synthesis, with the reset NAME at edges of the clock\n"
    ∷ codes "    --async            after NAME: the reset takes effect at once\n"
    ∷ codes "    --active-low       after NAME: the reset is active where its port is low\n"
    ∷ codes "    --initial          after NAME: the registers have their first values at power-up too\n"
    ∷ codes "    --module M         after NAME: the name of the module, in place of the circuit's\n"
    ∷ codes "    --prefix           after NAME: inputs are i_X and outputs o_X, where X is the signal\n"
    ∷ codes "    --encode           after NAME and with --source: the circuit with its state in a code, not the lighter one\n"
    ∷ codes "cec-opt check TEXT     writes the sizes of the circuit and of the optimized one\n"
    ∷ codes "    --never A,B[,..]   right after the command: at most one of these inputs of TEXT is ever present\n"
    ∷ codes "    --implies A,B      right after the command: the input B of TEXT is present whenever A is\n"
    ∷ codes "                       any number of both; events that break one of them do not count\n"
    ∷ codes "    --source FILE      in place of TEXT: compiles the source FILE, with its state plain and in a code,\n"
    ∷ codes "                       and takes the lighter circuit; a latch weighs as much as four gates\n"
    ∷ codes "                       its dependencies may have a cycle, if it is constructive for every event\n"
    ∷ codes "    --main M           after --source: of the module M, not of the first one\n"
    ∷ codes "cec-opt --help         writes these lines\n"
    ∷ codes "cec-opt --version      writes the program's name and version\n" ∷ [])

abbrev pub version_text : List ℕ
version_text = codes "cec-opt 0.1.0\n"

-- what the program writes about itself
abbrev pub own_text : About → List ℕ
own_text Commands = help_text
own_text Version = version_text
