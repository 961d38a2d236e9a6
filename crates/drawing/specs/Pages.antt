-- How pages begin.
use Rattle.std.specs.Prelude.{ℕ, List, ◌++◌, codes}
use Rattle.drawing.specs.Escaped.{escaped, markup}
use Rattle.drawing.specs.Styles.{drawing_style}

-- the head up to the words of the title; a browser takes styles within the page, and loads and runs nothing
unfoldable pub head_opening : List ℕ
head_opening = codes "<!DOCTYPE html>\n<html lang=\"en\"><head><meta charset=\"utf-8\"><meta http-equiv=\"Content-Security-Policy\" content=\"default-src 'none'; style-src 'unsafe-inline'\"><meta name=\"viewport\" content=\"width=device-width,initial-scale=1\"><title>"

-- the title ends, and the styles stand
unfoldable pub head_styles : List ℕ → List ℕ
head_styles style = markup (codes "</title><style>") ++ markup drawing_style ++ markup style ++ markup (codes "</style>")

-- a page up to the words of its heading: its title is a name and which kind of page it is
unfoldable pub page_opening : List ℕ → List ℕ → List ℕ → List ℕ
page_opening name kind style = head_opening ++ escaped name ++ markup kind ++ head_styles style ++ markup (codes "</head>\n<body><main><header><h1>")
