-- To believe: which component the files of a text describe.
use Rattle.std.specs.Prelude.{◌≡◌, ℕ, Bool, List, [], ◌++◌, codes}
use Rattle.csub_embed.specs.Trees.{Component}
use Rattle.csub_embed.specs.Tokens.{kinds}
use Rattle.csub_embed.specs.Grammar.{component_kinds}
use Rattle.csub_embed.specs.Names.{IsSound}
use Rattle.csub_embed.specs.declared.layout.EmbedLayout.{EmbedLayout}
use Rattle.csub_embed.specs.declared.layout.EmbedFile.{EmbedFile}
use Rattle.csub_embed.specs.declared.layout.EmbedFile.TheVariants.{Header, Declarations, Definitions}

-- ---- lines for the preprocessor

-- before a header, and after it
abbrev pub first_lines : List ℕ → List ℕ
first_lines name =
    codes "#ifndef " ++ (name ++ (codes "_H\n#define "
    ++ (name ++ codes "_H\n\n#include <stdbool.h>\n#include <stdint.h>\n")))

abbrev pub last_line : List ℕ
last_line = codes "\n#endif\n"

-- where C++ includes the declarations, the functions are those of C
abbrev pub shared_lines : List ℕ
shared_lines = codes "\n#ifdef __cplusplus\nextern \"C\" {\n#endif\n"

abbrev pub shared_end : List ℕ
shared_end = codes "\n#ifdef __cplusplus\n}\n#endif\n"

-- the declarations come before the definitions
abbrev pub include_line : List ℕ → List ℕ
include_line name = codes "#include \"" ++ (name ++ codes ".h\"\n")

abbrev pub lines_before : EmbedFile → List ℕ → List ℕ
lines_before Header name = first_lines name
lines_before Declarations name = first_lines name ++ shared_lines
lines_before Definitions name = include_line name

abbrev pub lines_after : EmbedFile → List ℕ
lines_after Header = last_line
lines_after Declarations = shared_end ++ last_line
lines_after Definitions = []

-- ---- files

-- The files of a component: a header alone, or the file NAME.h of the declarations and that of the definitions.
pub data EmbedFiles : Type 0 where
  One : (header : List ℕ) → EmbedFiles
  Two : (declarations definitions : List ℕ) → EmbedFiles

-- A text is a file of a component: between the lines for the preprocessor it has the tokens of that file.
pub record IsEmbedFile (layout : EmbedLayout) (text : List ℕ) (component : Component) : Type 0 where
  pub body : List ℕ
  pub framed : text ≡ lines_before layout.file component.name ++ (body ++ lines_after layout.file)
  pub tokens : kinds body ≡ component_kinds layout component

-- The line `#include "NAME.h"` of the definitions stands for the declarations. So two files have the tokens of the
-- declarations, followed by those of the definitions.
abbrev pub AreEmbedFiles : (packed : Bool) → EmbedFiles → Component → Type 0
AreEmbedFiles packed (One header) component = IsEmbedFile (record { packed = packed; file = Header }) header component
AreEmbedFiles packed (Two declarations definitions) component =
    IsEmbedFile (record { packed = packed; file = Declarations }) declarations component
    × IsEmbedFile (record { packed = packed; file = Definitions }) definitions component

-- The files are those of the component, which keeps the rules on names.
pub record Describes (packed : Bool) (files : EmbedFiles) (component : Component) : Type 0 where
  pub files_are : AreEmbedFiles packed files component
  pub sound : IsSound component
