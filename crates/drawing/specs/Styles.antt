-- How drawings look: rules of CSS, which are the same in each page.
use Rattle.std.specs.Prelude.{ℕ, List, ◌++◌, codes}

-- the palette, and what all drawings share
unfoldable pub drawing_style : List ℕ
drawing_style =
    codes ":root{color-scheme:light dark;--ink:#1a1d21;--soft:#59616b;--line:#c9ced4;--page:#fff;--field:#f3f5f7;"
    ++ codes "--suspect:#f2b632;--dead:#8b1e5c;--mark:#1a1d21;--slow:#cfe3f3;--cut:#e3d7ee;"
    ++ codes "--one:#0b5c9c;--two:#6db6e8;--three:#1b8a6b;--four:#e9d24a;--five:#d98a1f;--six:#b58bc4;--seven:#8a8f96;--lost:#c1272d}"
    ++ codes "@media(prefers-color-scheme:dark){:root{--ink:#e8eaed;--soft:#a4acb6;--line:#454c55;--page:#15181c;--field:#1f242a;"
    ++ codes "--suspect:#e8ad2e;--dead:#e0559c;--mark:#fff;--slow:#1d3a52;--cut:#3d2b52;"
    ++ codes "--one:#3c8fd6;--two:#9bd0f5;--three:#39b48f;--four:#f2e06c;--five:#e89c3c;--six:#c9a3d8;--seven:#9aa1aa;--lost:#f0666c}}"
    ++ codes "@media print{:root{color-scheme:light}}"
    ++ codes ".plot{display:block;width:100%;overflow:visible;background:var(--field)}"
    ++ codes ".suspect{fill:var(--suspect)}.dead{fill:var(--dead)}.slow{fill:var(--slow)}.cut{fill:var(--cut)}"
    ++ codes ".one{fill:var(--one)}.two{fill:var(--two)}.three{fill:var(--three)}.four{fill:var(--four)}.five{fill:var(--five)}"
    ++ codes ".six{fill:var(--six)}.seven{fill:var(--seven)}.lost{fill:var(--lost)}"
    ++ codes ".line{fill:none;stroke-width:2.5;vector-effect:non-scaling-stroke;stroke-linejoin:round}"
    ++ codes ".line.suspect{stroke:var(--suspect)}.line.dead{stroke:var(--dead)}"
    ++ codes ".rule{fill:none;stroke:var(--mark);stroke-width:2;vector-effect:non-scaling-stroke}"
    ++ codes ".rule.leave,.rule.start{stroke-dasharray:4 3}"
    ++ codes ".rule.grid{stroke:var(--line);stroke-width:1}"
    ++ codes ".halo{fill:none;stroke:var(--page);stroke-width:9;stroke-linecap:round;vector-effect:non-scaling-stroke}"
    ++ codes ".dot{fill:none;stroke:var(--mark);stroke-width:6;stroke-linecap:round;vector-effect:non-scaling-stroke}"
    ++ codes ".swatch .halo{display:none}"
    ++ codes ".across{position:relative;height:1.4em;border-top:1px solid var(--line)}"
    ++ codes ".across span{position:absolute;transform:translateX(-50%);font-size:.8rem;color:var(--soft);white-space:nowrap}"
    ++ codes ".across span:first-child{transform:none}.across .last{transform:translateX(-100%)}"
    ++ codes ".up{position:relative}.up span{position:absolute;right:.4em;transform:translateY(50%);font-size:.8rem;color:var(--soft);white-space:nowrap}"
    ++ codes ".unit{margin:0;font-size:.8rem;color:var(--soft);text-align:right}"
    ++ codes ".legend{list-style:none;display:flex;flex-wrap:wrap;gap:.2em 1.2em;padding:0;margin:.3em 0 .6em;font-size:.85rem}"
    ++ codes ".legend li{display:flex;align-items:center;gap:.4em}.swatch{width:.9em;height:.9em;flex:none}"
    ++ codes ".swatch .rule,.swatch .dot{vector-effect:none}"
